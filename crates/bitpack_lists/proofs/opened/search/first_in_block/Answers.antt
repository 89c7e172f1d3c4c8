-- As many values are below the target as come before the first that is not.
use Rattle.std.proofs.Common.{◌≡◌, ◌+◌, ◌-◌, ◌<◌, ◌≤◌, ℕ, Some, List, length, get_or, sym, ◌∙◌, ap, arith, rules, inl, inr}
use Rattle.std.proofs.lemmas.Bool.{cases_lt}
use Rattle.bitpack_lists.proofs.lemmas.blocks.SearchLemmas.{first_found, first_none, none_before}
use Rattle.bitpack_lists.proofs.opened.search.first_in_block.Goals as goal

-- The values at the positions before the one that was counted are below the target.
below : (value : ℕ → ℕ) (values : List ℕ) (start index target : ℕ) → ((k : ℕ) → k < start → value k < target)
    → ((k : ℕ) → k < length values → value (start + k) ≡ get_or values k 0) → index ≤ length values
    → ((k : ℕ) → 0 ≤ k → k < index → get_or values k 0 < target) → (k : ℕ) → k < start + index → value k < target
below value values start index target before each within counted k lt = elim (cases_lt k start) [
  | inl earlier ↦ before k earlier
  | inr from ↦
      let here : start + (k - start) ≡ k = omega (arith, from) in
      let same : value k ≡ get_or values (k - start) 0 = ap value (sym here) ∙ each (k - start) (omega (arith, from, lt, within)) in
      rw same (counted (k - start) (omega arith) (omega (arith, from, lt)))
]

pub returns-then-index-values : goal.returns-then-index-values
returns-then-index-values c = record {
  within = (omega arith, omega (arith, c.if-index-values.true));
  found = λ value before each.
      let index : ℕ = c.count_below-index.result in
      let found = c.count_below-index.ensures in
      let lt = c.if-index-values.true in
      let here = each index lt in
      let none = none_before value c.args.target (c.args.start + index) (below value c.args.values.now c.args.start index c.args.target before each found.within found.before) in
      let enough : c.args.target ≤ value (c.args.start + index) = rw here (found.enough lt) in
      ap (λ v. Some (c.args.start + index, v)) (sym here)
      ∙ first_found value c.args.target (c.args.start + index) _ (omega (arith, lt)) none enough;
}

pub returns-else-index-values : goal.returns-else-index-values
returns-else-index-values c = record {
  within = search rules;
  found = λ value before each.
      let index : ℕ = c.count_below-index.result in
      let found = c.count_below-index.ensures in
      let all : index ≡ length c.args.values.now = omega (arith, found.within, c.if-index-values.false) in
      first_none value c.args.target (c.args.start + length c.args.values.now)
      (none_before value c.args.target (c.args.start + length c.args.values.now)
      (rw all at (below value c.args.values.now c.args.start index c.args.target before each found.within found.before)));
}
