-- What is left of two sets that are merged part by part.
use Rattle.std.proofs.Common.{◌≡◌, ℕ, ◌+◌, ◌-◌, ◌^◌, ◌<◌, ◌≤◌, suc, zero, Bool, true, false, not, List, [], ◌∷◌, ◌++◌, ap, ◌∙◌, append-nil, arith, cond, drop, get_or, inl, inr, length, max, refl, subst, sym}
use Rattle.std.proofs.lemmas.Bool.{cases_lt}
use Rattle.std.proofs.lemmas.List.{drop-drop, drop_more}
use Rattle.bitpack_slices.proofs.ForCallers.{IsLeft, each, has_below, has_next, left_as, left_more, left_none, none_left, none_right, rank_le, rank_under, rising_drop, those_same}
use Rattle.bitpack_slices.specs.Bodies.{IsRising}
use Rattle.bitpack_slices.specs.Follows.{Follow}
use Rattle.bitpack_slices.specs.Operations.{apply}
use Rattle.bitpack_slices.specs.Reads.{has, rank}
use Rattle.bitpack_slices.specs.declared.operation.Operation.{Operation}
use Rattle.bitpack_wide.proofs.EncodingLaws.{ids_are_read}
use Rattle.bitpack_wide.specs.Combined.{answer}
use Rattle.bitpack_wide.specs.inner.Merging.{Continues}
use Rattle.bitpack_wide.specs.Opened.{ids}
use Rattle.bitpack_wide.specs.Wide.{IsWide}
use Rattle.bitpack_wide.specs.declared.wide_set.WideSet.{WideSet}

-- the ids of an opened set
pub wide_is : (set : WideSet) → IsWide (ids set)
wide_is set = (ids_are_read set.bytes.now set.are_bytes set.states.none).0

-- ---- ids that are passed

-- from one of its ids on a set has none below this id
rising_from : (n i m : ℕ) (xs : List ℕ) → IsRising 0 n xs → i < length xs → i ≤ m → IsRising (get_or xs i 0) n (drop m xs)
rising_from n i m xs rising here later =
    let head : drop i xs ≡ get_or xs i 0 ∷ drop (i + 1) xs = drop_more xs i 0 here in
    let own : IsRising 0 n (get_or xs i 0 ∷ drop (i + 1) xs) = subst (IsRising 0 n) head (rising_drop 0 n i xs rising) in
    let from : IsRising (get_or xs i 0) n (drop i xs) = subst (IsRising (get_or xs i 0) n) (sym head) (omega arith, own.1) in
    let more : m ≡ i + (m - i) = omega arith in
    subst (IsRising (get_or xs i 0) n) (sym (ap (λ (k : ℕ). drop k xs) more ∙ sym (drop-drop (m - i) i xs))) (rising_drop (get_or xs i 0) n (m - i) (drop i xs) from)

-- ids below one that are passed are none that are not below it
pass : (n x y d k : ℕ) (xs : List ℕ) → IsRising 0 n xs → y ≤ x → k + d ≤ rank y xs → has x (drop k xs) ≡ has x (drop (k + d) xs)
pass n x y zero k xs rising more few = let e : k + 0 ≡ k = omega arith in ap (λ (i : ℕ). has x (drop i xs)) (sym e)
pass n x y (suc d) k xs rising more few =
    let all = rank_le y xs in
    let here : k < length xs = omega arith in
    let next : k + 1 + d ≡ k + suc d = omega arith in
    has_next x xs k here (λ e. (let late = rank_under y 0 n k xs rising here (omega arith) in absurd (omega arith)))
    ∙ pass n x y d (k + 1) xs rising more (omega arith)
    ∙ ap (λ (i : ℕ). has x (drop i xs)) next

pass_all : (n x y i m : ℕ) (xs : List ℕ) → IsRising 0 n xs → y ≤ x → m ≡ max (rank y xs) i → has x (drop i xs) ≡ has x (drop m xs)
pass_all n x y i m xs rising more is = elim (cases_lt i (rank y xs)) [
  | inl less ↦ (let e : i + (rank y xs - i) ≡ m = omega arith in pass n x y (rank y xs - i) i xs rising more (omega arith) ∙ ap (λ (k : ℕ). has x (drop k xs)) e)
  | inr late ↦ (let e : i ≡ m = omega arith in ap (λ (k : ℕ). has x (drop k xs)) e)
]

skip : (operation : Operation) (p : Bool) (y i m : ℕ) (xs ys : List ℕ) → IsRising 0 (2 ^ 64) xs → IsRising y (2 ^ 64) ys → p ≡ apply operation true false
    → m ≡ cond (not p) (max (rank y xs) i) i → answer operation (drop i xs) ys ≡ answer operation (drop m xs) ys
skip operation true y i m xs ys rising above e is = ap (λ (k : ℕ). answer operation (drop k xs) ys) (sym is)
skip operation false y i m xs ys rising above e is =
    those_same (2 ^ 64) (λ x. apply operation (has x (drop i xs)) (has x ys)) (λ x. apply operation (has x (drop m xs)) (has x ys)) (λ x small. elim (cases_lt x y) [
      | inl less ↦
          let none = has_below x y (2 ^ 64) ys above less in
          each operation (has x (drop i xs)) (has x (drop i xs)) (has x ys) false refl none ∙ none_left operation (has x (drop i xs)) (sym e)
          ∙ sym (each operation (has x (drop m xs)) (has x (drop m xs)) (has x ys) false refl none ∙ none_left operation (has x (drop m xs)) (sym e))
      | inr more ↦ each operation (has x (drop i xs)) (has x (drop m xs)) (has x ys) (has x ys) (pass_all (2 ^ 64) x y i m xs rising (omega arith) is) refl
    ])

skip' : (operation : Operation) (p : Bool) (y i m : ℕ) (xs ys : List ℕ) → IsRising y (2 ^ 64) xs → IsRising 0 (2 ^ 64) ys → p ≡ apply operation false true
    → m ≡ cond (not p) (max (rank y ys) i) i → answer operation xs (drop i ys) ≡ answer operation xs (drop m ys)
skip' operation true y i m xs ys above rising e is = ap (λ (k : ℕ). answer operation xs (drop k ys)) (sym is)
skip' operation false y i m xs ys above rising e is =
    those_same (2 ^ 64) (λ x. apply operation (has x xs) (has x (drop i ys))) (λ x. apply operation (has x xs) (has x (drop m ys))) (λ x small. elim (cases_lt x y) [
      | inl less ↦
          let none = has_below x y (2 ^ 64) xs above less in
          each operation (has x xs) false (has x (drop i ys)) (has x (drop i ys)) none refl ∙ none_right operation (has x (drop i ys)) (sym e)
          ∙ sym (each operation (has x xs) false (has x (drop m ys)) (has x (drop m ys)) none refl ∙ none_right operation (has x (drop m ys)) (sym e))
      | inr more ↦ each operation (has x xs) (has x xs) (has x (drop i ys)) (has x (drop m ys)) refl (pass_all (2 ^ 64) x y i m ys rising (omega arith) is)
    ])

-- ---- what is left

max_later : (p : Bool) (a i : ℕ) → i ≤ cond p (max a i) i
max_later true a i = omega arith
max_later false a i = omega arith

pub passed_later : (p : Bool) (a i m : ℕ) → m ≡ cond p (max a i) i → i ≤ m
passed_later p a i m is = omega (arith, max_later p a i)

pub passed_few : (p : Bool) (y i m : ℕ) (xs : List ℕ) → i ≤ length xs → m ≡ cond p (max (rank y xs) i) i → m ≤ length xs
passed_few true y i m xs few is = omega (arith, rank_le y xs)
passed_few false y i m xs few is = omega arith

-- after some more is written
pub continued : (all before after fn old new : List ℕ) (at next : ℕ) → length new ≡ length old → at ≤ next → IsLeft all fn old 0 at before → Continues before after old new at next
    → IsLeft all fn new 0 next after
continued all before after fn old new at next same later so more =
    let count = so.count in
    let added = more.count in
    record { count = omega arith; written = λ h. more.written h ∙ so.written (omega arith) }

-- after ids are passed, and parts are merged
pub merged_left : (operation : Operation) (p q : Bool) (xs ys fn old new : List ℕ) (i j first second at next : ℕ) (merged : ℕ × ℕ)
    → IsRising 0 (2 ^ 64) xs → IsRising 0 (2 ^ 64) ys → i < length xs → j < length ys → p ≡ apply operation true false → q ≡ apply operation false true
    → first ≡ cond (not p) (max (rank (get_or ys j 0) xs) i) i → second ≡ cond (not q) (max (rank (get_or xs i 0) ys) j) j → length new ≡ length old → at ≤ next
    → IsLeft (answer operation xs ys) fn old 0 at (answer operation (drop i xs) (drop j ys)) → Continues (answer operation (drop first xs) (drop second ys)) (answer operation (drop merged.0 (drop first xs)) (drop merged.1 (drop second ys))) old new at next
    → IsLeft (answer operation xs ys) fn new 0 next (answer operation (drop (first + merged.0) xs) (drop (second + merged.1) ys))
merged_left operation p q xs ys fn old new i j first second at next merged rising rising' here there e f is is' same later so more =
    let late : i ≤ first = omega (arith, max_later (not p) (rank (get_or ys j 0) xs) i) in
    let passed : answer operation (drop i xs) (drop j ys) ≡ answer operation (drop first xs) (drop second ys) =
    skip operation p (get_or ys j 0) i first xs (drop j ys) rising (rising_from (2 ^ 64) j j ys rising' there (omega arith)) e is
    ∙ skip' operation q (get_or xs i 0) j second (drop first xs) ys (rising_from (2 ^ 64) i first xs rising here late) rising' f is' in
    let before = left_as (answer operation xs ys) fn old 0 at (answer operation (drop i xs) (drop j ys)) (answer operation (drop first xs) (drop second ys)) passed so in
    left_as (answer operation xs ys) fn new 0 next (answer operation (drop merged.0 (drop first xs)) (drop merged.1 (drop second ys))) (answer operation (drop (first + merged.0) xs) (drop (second + merged.1) ys))
    (ap (λ (l : List ℕ). answer operation l (drop merged.1 (drop second ys))) (drop-drop merged.0 first xs) ∙ ap (answer operation (drop (first + merged.0) xs)) (drop-drop merged.1 second ys))
    (continued (answer operation xs ys) (answer operation (drop first xs) (drop second ys)) (answer operation (drop merged.0 (drop first xs)) (drop merged.1 (drop second ys))) fn old new at next same later before more)

-- after the rest of both is written
pub ended_left : (all fn old mid new first second : List ℕ) (at end last : ℕ) → length mid ≡ length old → length new ≡ length mid → IsLeft all fn old 0 at (first ++ second)
    → Follow first old mid at end → Follow second mid new end last → Follow all fn new 0 last
ended_left all fn old mid new first second at end last same same' so one other =
    left_none all fn new 0 last [] refl
    (left_more all fn mid new 0 end last second [] same' (left_as all fn mid 0 end second (second ++ []) (sym (append-nil second)) (left_more all fn old mid 0 at end first second same so one)) other)
