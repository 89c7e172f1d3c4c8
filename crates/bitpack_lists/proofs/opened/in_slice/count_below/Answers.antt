-- A value below the target comes after no other.
use Rattle.std.proofs.Common.{◌≡◌, ◌≤◌, inl, inr, add-zero, arith}
use Rattle.std.proofs.lemmas.Bool.{cases_lt}
use Rattle.bitpack_lists.proofs.opened.in_slice.count_below.Goals.{then-value-target, else-value-target}
use Rattle.bitpack_lists.proofs.opened.in_slice.count_below.Goals as goal

pub loop-index-preserved : goal.loop-index-preserved
loop-index-preserved c =
    let below = c.loop-index.below in
    let index = c.loop-index.index in
    let so_far = c.loop-index.invariant in
    let order = c.requires.1 below index so_far.few c.loop-index-test.true in
    elim c.if-value-target.branch [
      | then-value-target w ↦
          let all : index ≤ below = elim (cases_lt below index) [
            | inl lt ↦ absurd (omega (arith, so_far.enough lt, order, w.if-value-target.true))
            | inr le ↦ le
          ] in
          let same : below ≡ index = omega (arith, all, so_far.few) in
          rw w.below-is
          (record {
            few = omega (arith, so_far.few);
            before = λ k lt. elim (cases_lt k below) [
              | inl in_front ↦ so_far.before k in_front
              | inr le ↦
                  let last : k ≡ index = omega (arith, le, lt, same) in
                  rw last w.if-value-target.true
            ];
            enough = λ lt. absurd (omega (arith, lt, same));
          })
      | else-value-target w ↦
          rw (w.below-is, add-zero)
          (record {
            few = omega (arith, so_far.few);
            before = so_far.before;
            enough = λ lt. elim (cases_lt below index) [
              | inl earlier ↦ so_far.enough earlier
              | inr le ↦
                  let last : below ≡ index = omega (arith, le, so_far.few) in
                  rw last w.if-value-target.false
            ];
          })
    ]
