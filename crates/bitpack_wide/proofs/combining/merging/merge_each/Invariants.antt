-- What is written, and what comes from i and j on, is all that the operation gives.
use Rattle.std.proofs.Common.{◌≡◌, ◌-◌, ◌+◌, ◌≤◌, List, ℕ, drop, length}
use Rattle.bitpack_slices.proofs.ForCallers.{IsLeft}
use Rattle.bitpack_wide.proofs.combining.merging.merge_each.Given as goal
use Rattle.bitpack_wide.specs.Combined.{answer}
use Rattle.bitpack_wide.specs.inner.Merging.{IsFront}

abbrev pub invariant-loop-i : goal.invariant-loop-i
invariant-loop-i l = record {
  first : l.i ≤ length l.xs;
  second : l.j ≤ length l.ys;
  later : l.at ≤ l.next;
  few : l.next ≤ l.at + (l.i + l.j);
  size : length l.out ≡ length l.fn.out;
  left : (all others : List ℕ) → IsFront l.xs all → IsFront l.ys others
      → IsLeft (answer l.operation all others) l.fn.out l.out l.at l.next (answer l.operation (drop l.i all) (drop l.j others));
}

abbrev pub decreases-loop-i : goal.decreases-loop-i
decreases-loop-i l = (length l.xs + length l.ys) - (l.i + l.j)
