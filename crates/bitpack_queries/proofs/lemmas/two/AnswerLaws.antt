-- The numbers below a bound that pass a test, and the answer chunk by chunk.
use Rattle.std.proofs.Common.{length, take, length-append, ◌≡◌, ℕ, ◌+◌, ◌-◌, ◌*◌, ◌/◌, ◌%◌, ◌^◌, ◌<◌, ◌≤◌, Bool, true, false, List, ◌++◌, map, sym, ap, ◌∙◌, arith, subst, inl, inr}
use Rattle.std.proofs.lemmas.Bool.{cases_lt}
use Rattle.std.proofs.lemmas.List.{append-nil, length-map, length-take-le}
use Rattle.bitpack_slices.proofs.ForCallers.{each, has_those, map_zero, none_left, none_pass, none_right, those_part, those_rise, those_same}
use Rattle.bitpack_sets.specs.Chunks.{lows_between}
use Rattle.bitpack_slices.specs.Operations.{answer, apply, those}
use Rattle.bitpack_queries.specs.Pairs.{IsPart, left, meets, positions_left}
use Rattle.bitpack_slices.specs.Reads.{has}
use Rattle.bitpack_slices.specs.Bodies.{IsRising}
use Rattle.bitpack_slices.specs.declared.operation.Operation.{Operation}
use Rattle.bitpack_queries.specs.declared.pairing.Meeting.{Meeting}
use Rattle.bitpack_queries.specs.declared.pairing.Pair.{Pair}

-- ---- chunks that are passed over

-- nothing of the answer is passed over
pub record Skips (before after : Pair) : Type 0 where
  pub same : (x : ℕ) → left before x ≡ left after x
  pub fewer : positions_left after ≤ positions_left before

pub moves : (f : ℕ → ℕ) (i j x y : ℕ) → x ≡ f i → y ≤ f j → x < y → i ≤ j → i < j
moves f i j x y e h less le = elim (cases_lt i j) [ inl lt ↦ lt | inr ge ↦ (let same : j ≡ i = omega arith in let f_same : f j ≡ f i = ap f same in absurd (omega arith)) ]

pub fewer_of : (size i j more : ℕ) → i < j → j ≤ size → (size - j) + more < (size - i) + more
fewer_of size i j more h w = omega arith

pub fewer_after : (size i j more : ℕ) → i < j → j ≤ size → more + (size - j) < more + (size - i)
fewer_after size i j more h w = omega arith

-- ids of one set alone are passed over, if the answer has none
pub pass_left : (operation : Operation) (p q r : Bool) (x key : ℕ) → apply operation true false ≡ false
    → (x / 65536 < key → r ≡ false) → (key * 65536 ≤ x → p ≡ q) → apply operation p r ≡ apply operation q r
pass_left operation p q r x key none below same = elim (cases_lt x (key * 65536)) [
  | inl less ↦ (let e : r ≡ false = below (omega arith) in
      ap (apply operation p) e ∙ none_left operation p none ∙ sym (none_left operation q none) ∙ ap (apply operation q) (sym e))
  | inr more ↦ ap (λ (b : Bool). apply operation b r) (same more)
]

pub pass_right : (operation : Operation) (p q r : Bool) (x key : ℕ) → apply operation false true ≡ false
    → (x / 65536 < key → r ≡ false) → (key * 65536 ≤ x → p ≡ q) → apply operation r p ≡ apply operation r q
pass_right operation p q r x key none below same = elim (cases_lt x (key * 65536)) [
  | inl less ↦ (let e : r ≡ false = below (omega arith) in
      ap (λ (b : Bool). apply operation b p) e ∙ none_right operation p none ∙ sym (none_right operation q none) ∙ ap (λ (b : Bool). apply operation b q) (sym e))
  | inr more ↦ ap (apply operation r) (same more)
]

-- ---- a chunk of the answer

pub listed_rise : (xs : List ℕ) (p : ℕ → Bool) → xs ≡ map (λ i. 0 + i) (those 256 p) → IsRising 0 256 xs
listed_rise xs p e = subst (λ (ys : List ℕ). IsRising 0 256 ys) (sym (e ∙ map_zero (those 256 p))) (those_rise p 256)

pub listed_has : (xs : List ℕ) (p : ℕ → Bool) (x : ℕ) → xs ≡ map (λ i. 0 + i) (those 256 p) → x < 256 → has x xs ≡ p x
listed_has xs p x e h = ap (has x) (e ∙ map_zero (those 256 p)) ∙ has_those p x 256 h

-- two bodies that have the numbers of a key tell what the answer has of it
pub meets_same : (pair : Pair) (meeting : Meeting) (xs ys : List ℕ) → xs ≡ lows_between pair.a meeting.a.0 meeting.a.1 → ys ≡ lows_between pair.b meeting.b.0 meeting.b.1
    → those 65536 (λ x. apply pair.operation (has x xs) (has x ys)) ≡ those 65536 (meets pair meeting)
meets_same pair meeting xs ys e f =
    those_same 65536 (λ x. apply pair.operation (has x xs) (has x ys)) (meets pair meeting)
    (λ x h. each pair.operation (has x xs) (has x (lows_between pair.a meeting.a.0 meeting.a.1)) (has x ys) (has x (lows_between pair.b meeting.b.0 meeting.b.1)) (ap (has x) e) (ap (has x) f))

-- ---- the answer chunk by chunk

pub answer_left : (operation : Operation) (xs xs' ys ys' : List ℕ) (more : ℕ → Bool) → xs' ≡ xs → ys' ≡ ys
    → ((x : ℕ) → more x ≡ apply operation (has x xs') (has x ys')) → answer operation xs ys ≡ those (2 ^ 32) more
answer_left operation xs xs' ys ys' more e f same = those_same (2 ^ 32) (λ x. apply operation (has x xs) (has x ys)) more
    (λ x h. each operation (has x xs) (has x xs') (has x ys) (has x ys') (ap (has x) (sym e)) (ap (has x) (sym f)) ∙ sym (same x))

pub part_first : (key : ℕ) (test before after : ℕ → Bool) → IsPart key test before after
    → those (2 ^ 32) before ≡ map (λ i. key * 65536 + i) (those 65536 test) ++ those (2 ^ 32) after
part_first key test before after part =
    let small : key < 65536 = part.small in
    those_part (2 ^ 32) (key * 65536) 65536 before test after (omega arith)
    (λ x h. part.lower x (omega arith))
    (λ x h. (let low : (key * 65536 + x) % 65536 ≡ x = omega arith in part.own (key * 65536 + x) (omega arith) ∙ ap test low))
    (λ x h. part.passed x (omega arith))
    (λ x a b. part.higher x (omega arith))

-- how many ids these are
pub part_len : (key : ℕ) (test before after : ℕ → Bool) → IsPart key test before after
    → length (those (2 ^ 32) before) ≡ length (those 65536 test) + length (those (2 ^ 32) after)
part_len key test before after part =
    ap length (part_first key test before after part)
    ∙ length-append (map (λ i. key * 65536 + i) (those 65536 test)) (those (2 ^ 32) after)
    ∙ ap (λ (n : ℕ). n + length (those (2 ^ 32) after)) (length-map (those 65536 test) (λ i. key * 65536 + i))

-- so far this part of the answer is written
pub record Written (out : List ℕ) (at : ℕ) (all : List ℕ) (more : ℕ → Bool) : Type 0 where
  pub within : at ≤ length out
  pub parts : all ≡ take at out ++ those (2 ^ 32) more

pub written_all : (out : List ℕ) (at : ℕ) (all : List ℕ) (more : ℕ → Bool) → Written out at all more → ((x : ℕ) → x < 2 ^ 32 → more x ≡ false) → take at out ≡ all
written_all out at all more so none = sym (so.parts ∙ ap (λ (xs : List ℕ). take at out ++ xs) (none_pass (2 ^ 32) more none) ∙ append-nil (take at out))

pub length_all : (out : List ℕ) (at : ℕ) (all : List ℕ) (more : ℕ → Bool) → Written out at all more → ((x : ℕ) → x < 2 ^ 32 → more x ≡ false) → at ≡ length all
length_all out at all more so none = sym (length-take-le at out so.within) ∙ ap length (written_all out at all more so none)

-- so far this part of the answer is counted
pub record Counted (count : ℕ) (all : List ℕ) (more : ℕ → Bool) : Type 0 where
  pub rest : length all ≡ count + length (those (2 ^ 32) more)

pub counted_so : (out : List ℕ) (at : ℕ) (all : List ℕ) (more : ℕ → Bool) → Written out at all more → Counted at all more
counted_so out at all more so = record {
  rest = ap length so.parts ∙ length-append (take at out) (those (2 ^ 32) more) ∙ ap (λ (n : ℕ). n + length (those (2 ^ 32) more)) (length-take-le at out so.within);
}

pub counted_all : (count : ℕ) (all : List ℕ) (more : ℕ → Bool) → Counted count all more → ((x : ℕ) → x < 2 ^ 32 → more x ≡ false) → count ≡ length all
counted_all count all more so none =
    let rest = so.rest in
    let end : length (those (2 ^ 32) more) ≡ 0 = ap length (none_pass (2 ^ 32) more none) in
    omega arith
