-- What the codes of a block in order are, and how wide.
use Rattle.std.proofs.Common.{◌≡◌, ℕ, suc, ◌+◌, ◌-◌, ◌%◌, ◌^◌, ◌<◌, ◌≤◌, inl, inr, ⊎_elim, List, [], ◌∷◌, length, map, get_or, All, refl, ap, arith}
use Rattle.std.proofs.Math.Pow.{pow-lt}
use Rattle.std.proofs.lemmas.Bool.{cases_lt}
use Rattle.std.proofs.lemmas.List.{length-map, get_or-map}
use Rattle.std.proofs.lemmas.List.Elements.{All-nil, All-cons, All-head, All-tail, All-from_get_or}
use Rattle.std.specs.List.Sorted.{IsStrictlyIncreasing}
use Rattle.bitpacking_register.specs.Deltas.{differences}
use Rattle.bitpacking.specs.Codes.{AreWords, one_less}
use Rattle.bitpacking.specs.Width.{Fits}
use Rattle.bitpacking.specs.Laws.{SortedCodesAreDifferences, StrictSavesAtMostABit}
use Rattle.bitpacking.proofs.Blocks.{AreWords-differences}

pub sorted_codes_are_differences : SortedCodesAreDifferences
sorted_codes_are_differences before [] words order = refl
sorted_codes_are_differences before (value ∷ values) words order =
    let P : ℕ → Type 0 = λ v. v < 2 ^ 32 in
    let rest : AreWords (value ∷ values) = All-tail P before (value ∷ values) words in
    let first : before < 2 ^ 32 = All-head P before (value ∷ values) words in
    let here : value < 2 ^ 32 = All-head P value values rest in
    let le : before ≤ value = order 0 1 0 (omega arith) (omega arith) in
    let e : (value + (2 ^ 32 - before)) % 2 ^ 32 ≡ value - before = omega arith in
    rw e (ap (λ xs. (value - before) ∷ xs)
    (sorted_codes_are_differences value values rest
    (λ i j d a b. order (suc i) (suc j) d (omega arith) (omega arith))))

pub all_positive : (before : ℕ) (values : List ℕ) → AreWords (before ∷ values) → IsStrictlyIncreasing (before ∷ values)
    → All (λ d. 1 ≤ d) (differences before values)
all_positive before [] words up = All-nil (λ d. 1 ≤ d)
all_positive before (value ∷ values) words up =
    let P : ℕ → Type 0 = λ v. v < 2 ^ 32 in
    let rest : AreWords (value ∷ values) = All-tail P before (value ∷ values) words in
    let here : value < 2 ^ 32 = All-head P value values rest in
    let lt : before < value = up 0 (omega arith) in
    All-cons (λ d. 1 ≤ d) ((value + (2 ^ 32 - before)) % 2 ^ 32) (differences value values) (omega arith)
    (all_positive value values rest (λ k lt'.
    let next : suc k + 1 ≡ suc (k + 1) = omega arith in
    rw next at (up (suc k) (omega arith))))

-- One less at each number above 0.
pub lowered : (ds : List ℕ) (k : ℕ) → All (λ d. 1 ≤ d) ds → AreWords ds → k < length ds
    → get_or (map one_less ds) k 0 + 1 ≡ get_or ds k 0
lowered ds k some words lt =
    let a : 1 ≤ get_or ds k 0 = some k 0 lt in
    let b : get_or ds k 0 < 2 ^ 32 = words k 0 lt in
    rw (get_or-map one_less ds k 0 0 lt) (omega arith)

pub Fits-lowered : (ds : List ℕ) (w : ℕ) → All (λ d. 1 ≤ d) ds → AreWords ds → Fits ds w → Fits (map one_less ds) w
Fits-lowered ds w some words fits =
    All-from_get_or (λ v. v < 2 ^ w) (map one_less ds) 0 (λ k h.
    let len : length (map one_less ds) ≡ length ds = length-map ds one_less in
    let lt : k < length ds = omega arith in
    let e : get_or (map one_less ds) k 0 + 1 ≡ get_or ds k 0 = lowered ds k some words lt in
    let f : get_or ds k 0 < 2 ^ w = fits k 0 lt in
    omega arith)

pub Fits-raised : (ds : List ℕ) (w : ℕ) → All (λ d. 1 ≤ d) ds → AreWords ds → Fits (map one_less ds) w → Fits ds (w + 1)
Fits-raised ds w some words fits =
    All-from_get_or (λ v. v < 2 ^ (w + 1)) ds 0 (λ k lt.
    let len : length (map one_less ds) ≡ length ds = length-map ds one_less in
    let e : get_or (map one_less ds) k 0 + 1 ≡ get_or ds k 0 = lowered ds k some words lt in
    let f : get_or (map one_less ds) k 0 < 2 ^ w = fits k 0 (omega arith) in
    let p : 2 ^ w < 2 ^ (w + 1) = pow-lt (let h : w < w + 1 = omega arith in h) in
    omega arith)

pub strict_saves_at_most_a_bit : StrictSavesAtMostABit
strict_saves_at_most_a_bit initial block width strict words up sorted strictly =
    let ds : List ℕ = differences initial block in
    let some : All (λ d. 1 ≤ d) ds = all_positive initial block words up in
    let words' : AreWords ds = AreWords-differences initial block in
    ⊎_elim
    (λ (lt : width < strict). absurd (strictly.least width lt (Fits-lowered ds width some words' sorted.fits)))
    (λ (ge : strict ≤ width). ⊎_elim
    (λ (lt : strict + 1 < width). absurd (sorted.least (strict + 1) lt (Fits-raised ds strict some words' strictly.fits)))
    (λ (ge' : width ≤ strict + 1). ⊎_elim
    (λ (lt : strict < width). inr (omega arith))
    (λ (ge'' : width ≤ strict). inl (omega arith))
    (cases_lt strict width))
    (cases_lt (strict + 1) width))
    (cases_lt width strict)
