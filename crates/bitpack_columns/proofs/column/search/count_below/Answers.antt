-- As many values are below the target as come before the first that is not.
use Rattle.std.proofs.Common.{◌≡◌, ◌≤◌, ℕ, get_or, inl, inr, add-zero, arith}
use Rattle.std.proofs.lemmas.Bool.{cases_lt}
use Rattle.bitpack_columns.proofs.column.search.count_below.Goals.{then-values-index, else-values-index}
use Rattle.bitpack_columns.proofs.column.search.count_below.Goals as goal

pub loop-index-preserved : goal.loop-index-preserved
loop-index-preserved c =
    let below : ℕ = c.loop-index.below in
    let index : ℕ = c.loop-index.index in
    let so_far = c.loop-index.invariant in
    let order : get_or c.args.values.now below 0 ≤ get_or c.args.values.now index 0 = c.requires.order below index 0 so_far.few c.loop-index-test.true in
    elim c.if-values-index.branch [
      | then-values-index w ↦
          let all : index ≤ below = elim (cases_lt below index) [
            | inl lt ↦ absurd (omega (arith, so_far.enough lt, order, w.if-values-index.true))
            | inr le ↦ le
          ] in
          let same : below ≡ index = omega (arith, all, so_far.few) in
          rw w.below-is
          (record {
            few = omega (arith, so_far.few);
            before = λ k lt. elim (cases_lt k below) [
              | inl in_front ↦ so_far.before k in_front
              | inr le ↦
                  let last : k ≡ index = omega (arith, le, lt, same) in
                  rw last w.if-values-index.true
            ];
            enough = λ lt. absurd (omega (arith, lt, same));
          })
      | else-values-index w ↦
          rw (w.below-is, add-zero)
          (record {
            few = omega (arith, so_far.few);
            before = so_far.before;
            enough = λ lt. elim (cases_lt below index) [
              | inl earlier ↦ so_far.enough earlier
              | inr le ↦
                  let last : below ≡ index = omega (arith, le, so_far.few) in
                  rw last w.if-values-index.false
            ];
          })
    ]
