-- In order, the first difference is the least and the last one the greatest.
use Rattle.std.proofs.Common.{◌≡◌, ◌+◌, ◌-◌, ◌<◌, ◌≤◌, ℕ, eqb, ap, arith, ◌∙◌}
use Rattle.bitpack_wide.specs.inner.WideColumnSteps.{difference_of}
use Rattle.bitpack_wide.proofs.WideSeen.{column_order, narrow_is, ordered_rise, ordered_sees}
use Rattle.bitpack_wide.proofs.wide_column.seeing.see_sorted.Goals as goal

pub returns-clause-sees : goal.returns-clause-sees
returns-clause-sees c =
    let chunk = c.args.chunk.now in
    let number : ℕ → ℕ = difference_of chunk in
    let ordered : (i j : ℕ) → i ≤ j → j < chunk.len → number i ≤ number j = λ i j le lt.
    omega (
      arith,
      narrow_is chunk.low chunk.high i c.requires.narrow,
      narrow_is chunk.low chunk.high j c.requires.narrow,
      column_order chunk.low c.requires.sorted i j le (omega (arith, lt, chunk.low_len)),
    ) in
    let all = ordered_sees number chunk.len chunk.some ordered in
    let end : chunk.len - 1 + 0 ≡ chunk.len - 1 = omega arith in
    record {
      zero_is = ap (λ (x : ℕ). eqb x 0) (c.read_differences.ensures 0 (omega arith)) ∙ all.zero_is;
      most_is = c.read_differences-2.ensures 0 (omega arith) ∙ ap number end ∙ all.most_is;
    }

pub returns-clause-rises : goal.returns-clause-rises
returns-clause-rises c =
    let chunk = c.args.chunk.now in
    ordered_rise (difference_of chunk) chunk.len chunk.some
    (λ i j le lt. omega (
      arith,
      narrow_is chunk.low chunk.high i c.requires.narrow,
      narrow_is chunk.low chunk.high j c.requires.narrow,
      column_order chunk.low c.requires.sorted i j le (omega (arith, lt, chunk.low_len)),
    ))
