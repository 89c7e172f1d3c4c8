-- The least and the greatest of some codes.
use Rattle.std.proofs.Common.{◌≡◌, ℕ, zero, suc, max, min, nat_cmp, Bool, true, false, Decides, eqb, eq-eqb, ◌+◌, ◌-◌, ◌%◌, ◌^◌, ◌<◌, ◌≤◌, List, [], ◌∷◌, length, take, get_or, sum, refl, ap, ◌∙◌, arith, inl, inr}
use Rattle.std.specs.Ordering.{ord_max}
use Rattle.std.proofs.lemmas.Bool.{cases_lt, ne_eqb}
use Rattle.std.proofs.lemmas.Bool.Decides.{nat_tests}
use Rattle.std.proofs.lemmas.List.{get_or-map, length-map}
use Rattle.std.proofs.lemmas.List.Elements.{All-from_get_or, All-head, All-tail}
use Rattle.std.proofs.lemmas.List.Sums.{sum_by-le}
use Rattle.std.proofs.lemmas.Nat.{pow_pos}
use Rattle.bitpacking.specs.Codes.{AreWords}
use Rattle.bitpacking.specs.Width.{Fits}
use Rattle.bitpack_groups.specs.Numbers.{greatest}
use Rattle.bitpack_columns.specs.declared.column_kind.ColumnKind.TheVariants.{Plain}
use Rattle.bitpack_columns.specs.Columns.{least}
use Rattle.bitpack_columns.specs.Opening.{AreTotals}
use Rattle.bitpack_columns.specs.Reads.{values_of}
use Rattle.bitpack_columns.proofs.CodeLaws.{least_le}
use Rattle.bitpack_columns.proofs.ReadLaws.{AreWords-values_of}
use Rattle.bitpack_columns.proofs.SumLaws.{greatest_below, greatest_le}

-- the code at an index
abbrev get_or_0 : List ℕ → ℕ → ℕ
get_or_0 codes k = get_or codes k 0

-- the greater of two words, as the code has it
pub most_of : (a b : ℕ) → ord_max nat_cmp a b ≡ max a b
most_of a b = grind (arith, nat_tests)

-- ---- the least

pub least_none : least [] ≡ 4294967295
unfolding least
least_none = refl

pub least_more : (xs : List ℕ) (i : ℕ) → i < length xs → least (take (i + 1) xs) ≡ min (least (take i xs)) (get_or xs i 0)
unfolding least
least_more [] i lt = absurd (omega arith)
least_more (x ∷ xs) zero lt = omega arith
least_more (x ∷ xs) (suc i) lt =
    let e : suc i + 1 ≡ suc (i + 1) = omega arith in
    let before = least_more xs i (omega arith) in
    ap (λ (n : ℕ). least (take n (x ∷ xs))) e ∙ omega arith

least_ge : (xs : List ℕ) (base : ℕ) → base < 2 ^ 32 → ((k : ℕ) → k < length xs → base ≤ get_or xs k 0) → base ≤ least xs
unfolding least
least_ge [] base small above = omega arith
least_ge (x ∷ xs) base small above =
    let here : base ≤ x = above 0 (omega arith) in
    let later = least_ge xs base small (λ k lt. above (suc k) (omega arith)) in
    omega arith

-- one of the words is the least
least_at : (xs : List ℕ) → 0 < length xs → AreWords xs → (k : ℕ) × (k < length xs) × (get_or xs k 0 ≡ least xs)
unfolding least
least_at [] some words = absurd (omega arith)
least_at (x ∷ []) some words = let h : x < 2 ^ 32 = All-head (λ v. v < 2 ^ 32) x [] words in (0, omega arith, omega arith)
least_at (x ∷ next ∷ xs) some words =
    let (k, lt, is) = least_at (next ∷ xs) (omega arith) (All-tail (λ v. v < 2 ^ 32) x (next ∷ xs) words) in
    elim (cases_lt x (least (next ∷ xs))) [
      | inl less ↦ (0, omega arith, omega arith)
      | inr more ↦ (suc k, omega arith, omega arith)
    ]

-- ---- values above a base

module _ (base : ℕ) (codes : List ℕ) (small : base < 2 ^ 32) (words : AreWords codes) (some : 0 < length codes) where
  abbrev values : List ℕ
  values = values_of Plain base codes

  long : length values ≡ length codes
  long = length-map codes (λ code. (base + code) % 2 ^ 32)

  value_at : (k : ℕ) → k < length codes → get_or values k 0 ≡ (base + get_or codes k 0) % 2 ^ 32
  value_at k lt = get_or-map (λ code. (base + code) % 2 ^ 32) codes k 0 0 lt

  -- the base is the least value if a code is 0 and no sum is above 2 ^ 32
  pub base_least : least codes ≡ 0 → base + greatest (get_or_0 codes) (length codes) < 2 ^ 32 → least values ≡ base
  base_least none below =
      let (k, lt, is) = least_at codes some words in
      let here : get_or values k 0 ≡ base = value_at k lt ∙ omega arith in
      let low = least_le values k (omega (arith, long)) in
      let high : base ≤ least values = least_ge values base small (λ m within.
      let m_lt : m < length codes = omega (arith, long) in
      let code = greatest_le (get_or_0 codes) (length codes) m m_lt in
      let e = value_at m m_lt in
      omega arith) in
      omega arith

  -- and only then
  pub least_base : least values ≡ base → (least codes ≡ 0) × (base + greatest (get_or_0 codes) (length codes) < 2 ^ 32)
  least_base is =
      let (k, lt, at) = least_at values (omega (arith, long)) (AreWords-values_of Plain base codes) in
      let lt' : k < length codes = omega (arith, long) in
      let e = value_at k lt' in
      let word : get_or codes k 0 < 2 ^ 32 = words k 0 lt' in
      let zero_at : get_or codes k 0 ≡ 0 = omega arith in
      let low = least_le codes k lt' in
      let high : greatest (get_or_0 codes) (length codes) < 2 ^ 32 - base =
      greatest_below (get_or_0 codes) (2 ^ 32 - base) (length codes) (omega arith) (λ m m_lt.
      let code : get_or codes m 0 < 2 ^ 32 = words m 0 m_lt in
      let f = value_at m m_lt in
      let g = least_le values m (omega (arith, long)) in
      omega arith) in
      (omega arith, omega arith)

  -- as a test of the bounds of the codes tells it
  pub least_decided : (low high : ℕ) (result : Bool) → low ≡ least codes → high ≡ greatest (get_or_0 codes) (length codes)
      → Decides result ((low ≡ 0) × (base + high < 2 ^ 32)) → eqb (least values) base ≡ result
  least_decided low high true low_is high_is decides = let both = rw (low_is, high_is) at (decides.0 refl) in eq-eqb (least values) base (base_least both.0 both.1)
  least_decided low high false low_is high_is decides = ne_eqb (least values) base (λ e.
      let both : (low ≡ 0) × (base + high < 2 ^ 32) = rw (low_is, high_is) (least_base e) in
      let clash : false ≡ true = decides.1 both in
      absurd cc)

-- ---- the greatest, and totals

pub greatest_above : (codes : List ℕ) (width : ℕ) → greatest (get_or_0 codes) (length codes) < 2 ^ width → Fits codes width
greatest_above codes width below =
    All-from_get_or (λ v. v < 2 ^ width) codes 0 (λ k within. let e = greatest_le (get_or_0 codes) (length codes) k within in omega arith)

pub greatest_fits : (codes : List ℕ) (width : ℕ) → Fits codes width → greatest (get_or_0 codes) (length codes) < 2 ^ width
greatest_fits codes width fits = greatest_below (get_or_0 codes) (2 ^ width) (length codes) (pow_pos width) (λ k within. fits k 0 within)

-- few codes of 25 bits have no sum above 2 ^ 32
pub few_sum : (codes : List ℕ) (total bits : ℕ) → length codes ≤ 128 → AreTotals codes total bits → bits < 2 ^ 25 → total ≡ sum codes
few_sum codes total bits few are narrow =
    let fits = are.above 25 narrow in
    let each = All-from_get_or (λ code. code ≤ 33554431) codes 0 (λ k lt. let h = fits k 0 lt in omega arith) in
    let most = sum_by-le (λ (c : ℕ). c) 33554431 codes each in
    let e = are.sum_is in
    omega arith
