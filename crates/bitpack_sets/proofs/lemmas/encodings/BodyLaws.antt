-- The three forms of a body, and the numbers that it is read as.
use Rattle.std.proofs.Common.{◌≡◌, ◌⊎◌, ℕ, ◌*◌, ◌<◌, ◌≤◌, Bool, true, false, ltb, List, [], ◌∷◌, drop, length, cond, refl, sym, ap, ◌∙◌, arith, inl, inr, eq-eqb}
use Rattle.std.proofs.lemmas.Bool.{cases_lt, cond_above, cond_below, ne_eqb}
use Rattle.bitpack_slices.proofs.ForCallers.{blocks_are_blocks, blocks_back, blocks_begin, bounds_rise, few_small, numbers_back, runs_back, runs_begun, runs_len, runs_read, some_bounds}
use Rattle.bitpack_sets.proofs.lemmas.words.Words.{OneBody}
use Rattle.bitpack_slices.specs.Bodies.{IsRising, blocks, le_bytes, numbers}
use Rattle.bitpack_slices.specs.Runs.{are_few, begins_runs, boundaries, run_numbers, runs, runs_from}
use Rattle.bitpack_slices.specs.Slices.{block_numbers, pairs_of}
use Rattle.bitpack_sets.specs.Directory.{body_numbers_of}
use Rattle.bitpack_sets.specs.Sets.{body}

pub numbers_len : (xs : List ℕ) → length (numbers xs) ≡ 2 * length xs
unfolding numbers le_bytes
numbers_len [] = refl
numbers_len (x ∷ xs) = let r : length (numbers xs) ≡ 2 * length xs = numbers_len xs in omega arith

-- ---- the forms

-- numbers with few boundaries
abbrev pub few : List ℕ → Bool
few xs = are_few (length (boundaries xs)) (length xs)

pub body_runs : (xs : List ℕ) → few xs ≡ true → body xs ≡ runs (boundaries xs)
unfolding body
body_runs xs e = ap (λ (b : Bool). cond b (runs (boundaries xs)) (cond (ltb (length (blocks xs)) (2 * length xs)) (blocks xs) (numbers xs))) e

pub body_blocks : (xs : List ℕ) → few xs ≡ false → length (blocks xs) < 2 * length xs → body xs ≡ blocks xs
unfolding body
body_blocks xs e h =
    ap (λ (b : Bool). cond b (runs (boundaries xs)) (cond (ltb (length (blocks xs)) (2 * length xs)) (blocks xs) (numbers xs))) e
    ∙ sym (cond_below (length (blocks xs)) (2 * length xs) _ _ h)

pub body_numbers : (xs : List ℕ) → few xs ≡ false → 2 * length xs ≤ length (blocks xs) → body xs ≡ numbers xs
unfolding body
body_numbers xs e h =
    ap (λ (b : Bool). cond b (runs (boundaries xs)) (cond (ltb (length (blocks xs)) (2 * length xs)) (blocks xs) (numbers xs))) e
    ∙ sym (cond_above (length (blocks xs)) (2 * length xs) _ _ _ h refl)

pub cases_few : (xs : List ℕ) → (few xs ≡ true) ⊎ (few xs ≡ false)
cases_few xs = cases_of (few xs)
  where
    cases_of : (b : Bool) → (b ≡ true) ⊎ (b ≡ false)
    cases_of true = inl refl
    cases_of false = inr refl

-- runs of some numbers are short
pub runs_short : (xs : List ℕ) → 0 < length xs → few xs ≡ true → (0 < length (boundaries xs)) × (length (runs (boundaries xs)) < 2 * length xs)
runs_short xs some e =
    let (most, least) = few_small (length (boundaries xs)) (length xs) e in
    let bounds = some_bounds xs some in
    let size = runs_len (boundaries xs) in
    (bounds, omega arith)

-- ---- a body is read as its numbers

-- the numbers by whether the size is two bytes for each, and by whether the body begins as runs do
abbrev pub by_head : Bool → List ℕ → List ℕ
by_head begun bytes = cond begun (runs_from 0 (drop 2 bytes)) (block_numbers bytes)

abbrev pub by_size : Bool → List ℕ → List ℕ
by_size same bytes = cond same (pairs_of bytes) (by_head (begins_runs bytes) bytes)

pub body_back : (xs : List ℕ) → IsRising 0 65536 xs → 0 < length xs → body_numbers_of (length xs) (body xs) ≡ xs
body_back xs r some = elim (cases_few xs) [
  | inl e ↦ (
      let (bounds, short) = runs_short xs some e in
      ap (body_numbers_of (length xs)) (body_runs xs e)
      ∙ ap (λ (b : Bool). by_size b (runs (boundaries xs))) (ne_eqb (length (runs (boundaries xs))) (2 * length xs) (λ f. absurd (omega arith)))
      ∙ ap (λ (b : Bool). by_head b (runs (boundaries xs))) (runs_begun (boundaries xs))
      ∙ ap run_numbers (runs_read (boundaries xs) (bounds_rise xs r)) ∙ runs_back xs r)
  | inr e ↦ elim (cases_lt (length (blocks xs)) (2 * length xs)) [
    | inl less ↦
        ap (body_numbers_of (length xs)) (body_blocks xs e less)
        ∙ ap (λ (b : Bool). by_size b (blocks xs)) (ne_eqb (length (blocks xs)) (2 * length xs) (λ f. absurd (omega arith)))
        ∙ ap (λ (b : Bool). by_head b (blocks xs)) (blocks_begin (length xs) (blocks xs) (blocks_are_blocks xs r some))
        ∙ blocks_back xs r some
    | inr more ↦
        ap (body_numbers_of (length xs)) (body_numbers xs e more)
        ∙ ap (λ (b : Bool). by_size b (numbers xs)) (eq-eqb (length (numbers xs)) (2 * length xs) (numbers_len xs))
        ∙ numbers_back 0 xs r
  ]
]

none_both : (xs ys : List ℕ) → length xs ≡ length ys → length xs ≡ 0 → xs ≡ ys
none_both [] [] e h = refl
none_both [] (y ∷ ys) e h = absurd (omega arith)
none_both (x ∷ xs) ys e h = absurd (omega arith)

pub one_body : OneBody
one_body xs ys h k size e = elim (cases_lt 0 (length xs)) [
  | inl some ↦
      sym (body_back xs h some) ∙ ap (body_numbers_of (length xs)) e ∙ ap (λ (n : ℕ). body_numbers_of n (body ys)) size ∙ body_back ys k (omega arith)
  | inr none ↦ none_both xs ys size (omega arith)
]
