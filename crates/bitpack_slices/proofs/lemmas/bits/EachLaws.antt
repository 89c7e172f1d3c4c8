-- The numbers of the bits of a word that are 1 are written one after the other.
use Rattle.std.proofs.Common.{◌≡◌, ℕ, suc, ◌+◌, ◌*◌, ◌^◌, ◌<◌, List, [], ◌∷◌, ◌++◌, map, take, set, length, sym, ap, ◌∙◌, append_assoc, append-nil, w64}
use Rattle.std.specs.Int.{trailing_zeros}
use Rattle.std.proofs.lemmas.Grind.{flat_map-append}
use Rattle.std.proofs.lemmas.List.{take_more_set}
use Rattle.bitpack_slices.proofs.lemmas.bits.FourLaws.{cleared, next_is}
use Rattle.bitpack_slices.proofs.lemmas.bits.OnesLaws.{none_of_zero}
use Rattle.bitpack_slices.specs.Bodies.{le_bytes, numbers}
use Rattle.bitpack_slices.specs.Slices.{ones_from}

-- one fewer is left
pub one_fewer : (left : ℕ) → 0 < left → left < 2 ^ 64 → length (ones_from left 0 64) ≡ suc (length (ones_from (cleared left) 0 64))
one_fewer left pos small = ap length (next_is left pos small).ones

pub none_left : (left : ℕ) → left ≡ 0 → length (ones_from left 0 64) ≡ 0
none_left left e = ap length (ap (λ (n : ℕ). ones_from n 0 64) e ∙ none_of_zero)

-- ---- as numbers

pub one_put : (base next left : ℕ) (out all : List ℕ) → 0 < left → left < 2 ^ 64 → next < length out
    → take next out ++ map (λ i. base + i) (ones_from left 0 64) ≡ all
    → take (next + 1) (set out next (base + trailing_zeros w64 left)) ++ map (λ i. base + i) (ones_from (cleared left) 0 64) ≡ all
one_put base next left out all pos small room e =
    let t : ℕ = trailing_zeros w64 left in
    let rest : List ℕ = map (λ i. base + i) (ones_from (cleared left) 0 64) in
    ap (λ (l : List ℕ). l ++ rest) (take_more_set out next (base + t) room) ∙ append_assoc (take next out) ((base + t) ∷ []) rest
    ∙ ap (λ (l : List ℕ). take next out ++ map (λ i. base + i) l) (sym (next_is left pos small).ones) ∙ e

pub all_put : (base left : ℕ) (front all : List ℕ) → left ≡ 0 → front ++ map (λ i. base + i) (ones_from left 0 64) ≡ all → front ≡ all
all_put base left front all none e =
    sym (append-nil front) ∙ sym (ap (λ (l : List ℕ). front ++ map (λ i. base + i) l) (ap (λ (n : ℕ). ones_from n 0 64) none ∙ none_of_zero)) ∙ e

-- ---- as two bytes each

pub one_pair : (base next left : ℕ) (out new all : List ℕ) → 0 < left → left < 2 ^ 64
    → take (2 * (next + 1)) new ≡ take (2 * next) out ++ le_bytes 2 (base + trailing_zeros w64 left)
    → take (2 * next) out ++ numbers (map (λ i. base + i) (ones_from left 0 64)) ≡ all
    → take (2 * (next + 1)) new ++ numbers (map (λ i. base + i) (ones_from (cleared left) 0 64)) ≡ all
unfolding numbers
one_pair base next left out new all pos small is e =
    let t : ℕ = trailing_zeros w64 left in
    let rest : List ℕ = numbers (map (λ i. base + i) (ones_from (cleared left) 0 64)) in
    ap (λ (l : List ℕ). l ++ rest) is ∙ append_assoc (take (2 * next) out) (le_bytes 2 (base + t)) rest
    ∙ ap (λ (l : List ℕ). take (2 * next) out ++ numbers (map (λ i. base + i) l)) (sym (next_is left pos small).ones) ∙ e

pub all_pairs : (base left : ℕ) (front all : List ℕ) → left ≡ 0 → front ++ numbers (map (λ i. base + i) (ones_from left 0 64)) ≡ all → front ≡ all
unfolding numbers
all_pairs base left front all none e =
    sym (append-nil front) ∙ sym (ap (λ (l : List ℕ). front ++ numbers (map (λ i. base + i) l)) (ap (λ (n : ℕ). ones_from n 0 64) none ∙ none_of_zero)) ∙ e

pub numbers_cat : (xs ys : List ℕ) → numbers (xs ++ ys) ≡ numbers xs ++ numbers ys
unfolding numbers
numbers_cat xs ys = flat_map-append (le_bytes 2) xs ys
