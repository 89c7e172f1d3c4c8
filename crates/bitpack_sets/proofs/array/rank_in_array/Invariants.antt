-- The rank is among those that are left.
use Rattle.std.proofs.Common.{◌≤◌, ◌+◌, ◌/◌, length}
use Rattle.bitpack_sets.proofs.array.rank_in_array.Given as goal
use Rattle.bitpack_slices.specs.Reads.{rank}
use Rattle.bitpack_slices.specs.Slices.{quads_of}

abbrev pub invariant-loop-left : goal.invariant-loop-left
invariant-loop-left l = record {
  within : l.low + l.left ≤ length l.rest / 4;
  low_is : l.low ≤ rank l.id (quads_of l.rest);
  high_is : rank l.id (quads_of l.rest) ≤ l.low + l.left;
}

abbrev pub decreases-loop-left : goal.decreases-loop-left
decreases-loop-left l = l.left
