-- What is written, and what comes from i and j on, is all that the operation gives.
use Rattle.std.proofs.Common.{◌≡◌, ◌-◌, ◌+◌, ◌≤◌, drop, length}
use Rattle.bitpack_slices.proofs.ForCallers.{IsLeft}
use Rattle.bitpack_wide.proofs.combining.merging.merge.Given as goal
use Rattle.bitpack_wide.specs.Combined.{answer}
use Rattle.bitpack_wide.specs.Opened.{ids}

abbrev pub invariant-loop-i : goal.invariant-loop-i
invariant-loop-i l = record {
  first : l.i ≤ length (ids l.a);
  second : l.j ≤ length (ids l.b);
  few : l.at ≤ l.i + l.j;
  size : length l.out ≡ length l.fn.out;
  xs_size : length l.xs ≡ 1024;
  ys_size : length l.ys ≡ 1024;
  left : IsLeft (answer l.operation (ids l.a) (ids l.b)) l.fn.out l.out 0 l.at (answer l.operation (drop l.i (ids l.a)) (drop l.j (ids l.b)));
}

abbrev pub decreases-loop-i : goal.decreases-loop-i
decreases-loop-i l = (length (ids l.a) + length (ids l.b)) - (l.i + l.j)
