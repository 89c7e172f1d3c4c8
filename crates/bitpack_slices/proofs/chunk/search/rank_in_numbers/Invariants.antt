-- The rank is among those that are left.
use Rattle.std.proofs.Common.{◌≤◌, ◌+◌, ◌/◌, length}
use Rattle.bitpack_slices.proofs.chunk.search.rank_in_numbers.Given as goal
use Rattle.bitpack_slices.specs.Reads.{rank}
use Rattle.bitpack_slices.specs.Slices.{pairs_of}

abbrev pub invariant-loop-left : goal.invariant-loop-left
invariant-loop-left l = record {
  within : l.low + l.left ≤ length l.body / 2;
  low_is : l.low ≤ rank l.number (pairs_of l.body);
  high_is : rank l.number (pairs_of l.body) ≤ l.low + l.left;
}

abbrev pub decreases-loop-left : goal.decreases-loop-left
decreases-loop-left l = l.left
