-- What is left of the answer comes next, and no more than the most are written.
use Rattle.std.proofs.Common.{◌≡◌, ◌^◌, ◌≤◌, length}
use Rattle.bitpack_slices.proofs.ForCallers.{IsLeft}
use Rattle.bitpack_queries.proofs.combining.write_chunks.Given as goal
use Rattle.bitpack_slices.specs.Operations.{those}
use Rattle.bitpack_queries.specs.Pairs.{left, positions_left}

abbrev pub invariant-loop-meeting : goal.invariant-loop-meeting
invariant-loop-meeting l = record {
  size : length l.out ≡ length l.fn.out;
  few : l.at ≤ l.most;
  rest : IsLeft (those (2 ^ 32) (left l.fn.pair)) l.fn.out l.out 0 l.at (those (2 ^ 32) (left l.pair));
}

abbrev pub decreases-loop-meeting : goal.decreases-loop-meeting
decreases-loop-meeting l = positions_left l.pair
