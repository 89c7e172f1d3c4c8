-- Sums of a base and the values of a column, some values at a time.
use Rattle.std.proofs.Common.{◌≡◌, ◌⊎◌, ℕ, ◌+◌, ◌-◌, ◌<◌, ◌≤◌, List, length, take, drop, get_or, sym, ◌∙◌, ap, arith, inl, inr}
use Rattle.std.proofs.lemmas.Bool.{cases_lt}
use Rattle.std.proofs.lemmas.List.{get_or-drop, get_or-take}

-- some values are the next of all, and the base is added to them from an index on
module _ (all : List ℕ) (base done : ℕ) (some out after : List ℕ) (is : some ≡ take (length some) (drop done all))
    (added : (k : ℕ) → k < length some → get_or after (done + k) 0 ≡ base + get_or some k 0)
    (same : (k : ℕ) → (k < done) ⊎ (done + length some ≤ k) → get_or after k 0 ≡ get_or out k 0) where
  pub sums_after : ((k : ℕ) → k < done → get_or out k 0 ≡ base + get_or all k 0)
      → (k : ℕ) → k < done + length some → get_or after k 0 ≡ base + get_or all k 0
  sums_after sums k lt = elim (cases_lt k done) [
    | inl before ↦ same k (inl before) ∙ sums k before
    | inr past ↦
        let j : ℕ = k - done in
        let inside : j < length some = omega (arith, past, lt) in
        let at : done + j ≡ k = omega (arith, past) in
        let value : get_or some j 0 ≡ get_or all k 0 =
        ap (λ xs. get_or xs j 0) is ∙ get_or-take (length some) (drop done all) j 0 inside ∙ get_or-drop done all j 0 ∙ ap (λ i. get_or all i 0) at in
        ap (λ i. get_or after i 0) (sym at) ∙ added j inside ∙ ap (λ v. base + v) value
  ]

  pub rest_after : (before : List ℕ) → ((k : ℕ) → done ≤ k → get_or out k 0 ≡ get_or before k 0)
      → (k : ℕ) → done + length some ≤ k → get_or after k 0 ≡ get_or before k 0
  rest_after before rest k past = same k (inr past) ∙ rest k (omega (arith, past))
