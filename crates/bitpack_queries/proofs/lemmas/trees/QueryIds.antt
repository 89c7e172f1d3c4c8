-- Ids that are not below one.
use Rattle.std.proofs.Common.{◌≡◌, ℕ, ◌+◌, ◌-◌, ◌*◌, ◌/◌, ◌%◌, ◌^◌, ◌<◌, ◌≤◌, leb, Bool, true, false, ◌&&◌, cond, List, [], ◌∷◌, ◌++◌, map, get_or, take, drop, max, refl, sym, ap, ◌∙◌, arith, inl, inr, append_assoc}
use Rattle.std.specs.List.{filter, range_with_len}
use Rattle.std.proofs.lemmas.Bool.{cases_lt, le-leb, lt-leb}
use Rattle.bitpack_slices.proofs.ForCallers.{all_from, and_false, has_part, head_left_out, head_retained, none_from, those_part, those_rise, those_same}
use Rattle.bitpack_slices.specs.Bitmaps.{has_bit}
use Rattle.bitpack_slices.specs.Operations.{those}
use Rattle.bitpack_slices.specs.Reads.{ids_from}
use Rattle.bitpack_queries.specs.Queries.{IsLoaded}

-- ---- a part of the ids

filter_twice : (a b : ℕ) (xs : List ℕ) → ids_from a (ids_from b xs) ≡ ids_from (max b a) xs
filter_twice a b [] = refl
filter_twice a b (x ∷ xs) = elim (cases_lt x b) [
  | inl lt ↦ (
      let less : x < max b a = omega arith in
      ap (ids_from a) (head_left_out (leb b x) x (ids_from b xs) (lt-leb b x lt)) ∙ filter_twice a b xs ∙ sym (head_left_out (leb (max b a) x) x (ids_from (max b a) xs) (lt-leb (max b a) x less)))
  | inr ge ↦ ap (ids_from a) (head_retained (leb b x) x (ids_from b xs) (le-leb b x ge)) ∙ elim (cases_lt x a) [
    | inl lt ↦ (
        let less : x < max b a = omega arith in
        head_left_out (leb a x) x (ids_from a (ids_from b xs)) (lt-leb a x lt) ∙ filter_twice a b xs ∙ sym (head_left_out (leb (max b a) x) x (ids_from (max b a) xs) (lt-leb (max b a) x less)))
    | inr le ↦ (
        let more : max b a ≤ x = omega arith in
        head_retained (leb a x) x (ids_from a (ids_from b xs)) (le-leb a x le) ∙ ap (λ ys. x ∷ ys) (filter_twice a b xs) ∙ sym (head_retained (leb (max b a) x) x (ids_from (max b a) xs) (le-leb (max b a) x more)))
  ]
]

pub sought : (next least target : ℕ) (xs : List ℕ) → next ≡ max least target → ids_from next xs ≡ ids_from target (ids_from least xs)
sought next least target xs e = ap (λ (n : ℕ). ids_from n xs) e ∙ sym (filter_twice target least xs)

both_tests : {A : Type 0} (p q : A → Bool) (x : A) (xs : List A) (a b : Bool) → filter q (filter p xs) ≡ filter (λ y. q y && p y) xs → p x ≡ a → q x ≡ b
    → filter q (cond a (x ∷ filter p xs) (filter p xs)) ≡ cond (b && a) (x ∷ filter (λ y. q y && p y) xs) (filter (λ y. q y && p y) xs)
both_tests p q x xs false true h e f = h
both_tests p q x xs false false h e f = h
both_tests p q x xs true true h e f = ap (λ b. cond b (x ∷ filter q (filter p xs)) (filter q (filter p xs))) f ∙ ap (λ ys. x ∷ ys) h
both_tests p q x xs true false h e f = ap (λ b. cond b (x ∷ filter q (filter p xs)) (filter q (filter p xs))) f ∙ h

filter_both : {A : Type 0} (p q : A → Bool) (xs : List A) → filter q (filter p xs) ≡ filter (λ x. q x && p x) xs
filter_both p q [] = refl
filter_both p q (x ∷ xs) = both_tests p q x xs (p x) (q x) (filter_both p q xs) refl refl

map_chosen : (base x : ℕ) (b : Bool) (ys : List ℕ) → cond b ((base + x) ∷ map (λ i. base + i) ys) (map (λ i. base + i) ys) ≡ map (λ i. base + i) (cond b (x ∷ ys) ys)
map_chosen base x true ys = refl
map_chosen base x false ys = refl

filter_mapped : (base : ℕ) (q : ℕ → Bool) (xs : List ℕ) → filter q (map (λ i. base + i) xs) ≡ map (λ i. base + i) (filter (λ i. q (base + i)) xs)
filter_mapped base q [] = refl
filter_mapped base q (x ∷ xs) =
    ap (λ ys. cond (q (base + x)) ((base + x) ∷ ys) ys) (filter_mapped base q xs) ∙ map_chosen base x (q (base + x)) (filter (λ i. q (base + i)) xs)

from_those : (n least : ℕ) (p : ℕ → Bool) → ids_from least (those n p) ≡ those n (λ x. leb least x && p x)
unfolding those
from_those n least p = filter_both p (leb least) (range_with_len 0 n)

second_false : (a b : Bool) → b ≡ false → (a && b) ≡ false
second_false true b e = e
second_false false b e = refl

pub tests_same : (a b x : ℕ) (c : Bool) → a ≤ b → (a ≤ x → x < b → c ≡ false) → (leb a x && c) ≡ (leb b x && c)
tests_same a b x c h none = elim (cases_lt x a) [
  | inl lt ↦ (let less : x < b = omega arith in ap (λ t. t && c) (lt-leb a x lt ∙ sym (lt-leb b x less)))
  | inr ge ↦ elim (cases_lt x b) [
    | inl lt ↦ second_false (leb a x) c (none ge lt) ∙ sym (second_false (leb b x) c (none ge lt))
    | inr le ↦ ap (λ t. t && c) (le-leb a x ge ∙ sym (le-leb b x le))
  ]
]

filter_both_those : (base least : ℕ) (q : ℕ → Bool) → filter (λ i. leb least (base + i)) (those 256 q) ≡ those 256 (λ i. leb least (base + i) && q i)
unfolding those
filter_both_those base least q = filter_both q (λ i. leb least (base + i)) (range_with_len 0 256)

-- ids between which there are none
pub passed_over : (n least next : ℕ) (p : ℕ → Bool) → least ≤ next → ((x : ℕ) → x < n → least ≤ x → x < next → p x ≡ false) → ids_from next (those n p) ≡ ids_from least (those n p)
passed_over n least next p h none =
    from_those n next p ∙ those_same n (λ x. leb next x && p x) (λ x. leb least x && p x) (λ x l. sym (tests_same least next x (p x) h (none x l))) ∙ sym (from_those n least p)

-- the ids of 256 numbers, and those after them
pub with_slice : (n base least : ℕ) (p q : ℕ → Bool) → base + 256 ≤ n → base ≤ least → least ≤ base + 256 → ((i : ℕ) → i < 256 → p (base + i) ≡ q i)
    → ids_from least (those n p) ≡ ids_from least (map (λ i. base + i) (those 256 q)) ++ ids_from (base + 256) (those n p)
with_slice n base least p q room from to same =
    let before : (x : ℕ) → x < base → (leb least x && p x) ≡ false = λ x l. and_false (leb least x) (p x) (lt-leb least x (omega arith)) in
    let own : (i : ℕ) → i < 256 → (leb least (base + i) && p (base + i)) ≡ (leb least (base + i) && q i) = λ i l. ap (λ b. leb least (base + i) && b) (same i l) in
    let passed : (x : ℕ) → x < base + 256 → (leb (base + 256) x && p x) ≡ false = λ x l. and_false (leb (base + 256) x) (p x) (lt-leb (base + 256) x l) in
    let after : (x : ℕ) → base + 256 ≤ x → x < n → (leb least x && p x) ≡ (leb (base + 256) x && p x) =
    λ x l m. ap (λ b. b && p x) (le-leb least x (omega arith) ∙ sym (le-leb (base + 256) x l)) in
    from_those n least p
    ∙ those_part n base 256 (λ x. leb least x && p x) (λ i. leb least (base + i) && q i) (λ x. leb (base + 256) x && p x) room before own passed after
    ∙ ap (λ xs. xs ++ those n (λ x. leb (base + 256) x && p x)) (ap (map (λ i. base + i)) (sym (filter_both_those base least q)) ∙ sym (filter_mapped base (leb least) (those 256 q)))
    ∙ ap (λ xs. ids_from least (map (λ i. base + i) (those 256 q)) ++ xs) (sym (from_those n (base + 256) p))

-- ---- what is left of an answer

pub left_none : (found : ℕ → Bool) (next : ℕ) → 2 ^ 32 ≤ next → ids_from next (those (2 ^ 32) found) ≡ []
left_none found next h = none_from 0 (2 ^ 32) next (those (2 ^ 32) found) h (those_rise found (2 ^ 32))

pub left_all : (found : ℕ → Bool) → ids_from 0 (those (2 ^ 32) found) ≡ those (2 ^ 32) found
left_all found = all_from 0 (2 ^ 32) 0 (those (2 ^ 32) found) (omega arith) (those_rise found (2 ^ 32))

-- before the next high byte that occurs there is none
pub none_before : (found : ℕ → Bool) (key next : ℕ) (highs : List ℕ) (bitmaps : List (List ℕ)) (high x : ℕ) → IsLoaded found key highs bitmaps → next / 65536 ≡ key → x < 2 ^ 32 → next ≤ x → x < next - next % 65536 + 256 * high → high ≤ 256
    → ((i : ℕ) → next % 65536 / 256 ≤ i → i < high → has_bit highs i ≡ false) → found x ≡ false
none_before found key next highs bitmaps high x loaded at small from to few none =
    let own : x / 65536 ≡ key = omega arith in
    loaded x small own ∙ and_false (has_bit highs (x % 65536 / 256)) (has_bit (get_or bitmaps 0 []) (x % 65536)) (none (x % 65536 / 256) (omega arith) (omega arith))

-- the ids of a high byte that occurs
pub own_of_high : (found : ℕ → Bool) (key next : ℕ) (highs : List ℕ) (bitmaps : List (List ℕ)) (high i : ℕ) → IsLoaded found key highs bitmaps → next / 65536 ≡ key → next < 2 ^ 32 → high < 256 → i < 256 → has_bit highs high ≡ true
    → found (next - next % 65536 + 256 * high + i) ≡ has_bit (take 4 (drop (4 * high) (get_or bitmaps 0 []))) i
own_of_high found key next highs bitmaps high i loaded at small few inside one =
    let x : ℕ = next - next % 65536 + 256 * high + i in
    let own : x / 65536 ≡ key = omega arith in
    let low : x % 65536 ≡ 256 * high + i = omega arith in
    let byte : x % 65536 / 256 ≡ high = omega arith in
    loaded x (omega arith) own
    ∙ ap (λ (h : ℕ). has_bit highs h && has_bit (get_or bitmaps 0 []) (x % 65536)) byte
    ∙ ap (λ b. b && has_bit (get_or bitmaps 0 []) (x % 65536)) one
    ∙ ap (has_bit (get_or bitmaps 0 [])) low ∙ sym (has_part (get_or bitmaps 0 []) high i inside)

pub part_same : (own : List ℕ) (from i : ℕ) → has_bit (take 4 (drop from own)) i ≡ has_bit (take (from + 4 - from) (drop from own)) i
part_same own from i = let four : 4 ≡ from + 4 - from = omega arith in ap (λ (n : ℕ). has_bit (take n (drop from own)) i) four

-- ids of one high byte are written
pub high_written : (p : ℕ → Bool) (bits : List ℕ) (base n least next : ℕ) (old new : List ℕ) → base + 256 ≤ 2 ^ 32 → base ≤ least → least ≤ base + 256 → base ≤ next → next ≤ base + 256 → n ≤ least
    → ((x : ℕ) → x < 2 ^ 32 → n ≤ x → x < least → p x ≡ false) → ((i : ℕ) → i < 256 → p (base + i) ≡ has_bit bits i)
    → new ++ ids_from next (map (λ i. base + i) (those 256 (has_bit bits))) ≡ old ++ ids_from least (map (λ i. base + i) (those 256 (has_bit bits)))
    → new ++ ids_from next (those (2 ^ 32) p) ≡ old ++ ids_from n (those (2 ^ 32) p)
high_written p bits base n least next old new room a b c d later none own e =
    let numbers : List ℕ = map (λ i. base + i) (those 256 (has_bit bits)) in
    let rest : List ℕ = ids_from (base + 256) (those (2 ^ 32) p) in
    ap (λ xs. new ++ xs) (with_slice (2 ^ 32) base next p (has_bit bits) room c d own) ∙ sym (append_assoc new (ids_from next numbers) rest)
    ∙ ap (λ xs. xs ++ rest) e ∙ append_assoc old (ids_from least numbers) rest
    ∙ ap (λ xs. old ++ xs) (sym (with_slice (2 ^ 32) base least p (has_bit bits) room a b own) ∙ passed_over (2 ^ 32) n least p later none)
