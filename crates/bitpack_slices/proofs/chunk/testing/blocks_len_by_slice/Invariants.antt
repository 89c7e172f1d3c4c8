-- What is counted of the numbers from an index on.
use Rattle.std.proofs.Common.{◌+◌, ◌*◌, ◌/◌, ◌<◌, ◌≤◌, drop, length}
use Rattle.bitpack_slices.specs.Slices.{pairs_of}
use Rattle.bitpack_slices.proofs.lemmas.numbers.FallLaws.{IsRun}
use Rattle.bitpack_slices.proofs.chunk.testing.blocks_len_by_slice.Given as goal

abbrev pub invariant-loop-left : goal.invariant-loop-left
invariant-loop-left l = record {
  left : l.left < length l.body / 2;
  count : l.run.count + l.left ≤ length l.body / 2;
  slices : l.run.slices + l.left ≤ length l.body / 2;
  size : l.run.size ≤ 32 * l.run.slices;
  run : IsRun l.run.high l.run.count l.run.slices l.run.size (drop l.left (pairs_of l.body));
}

abbrev pub decreases-loop-left : goal.decreases-loop-left
decreases-loop-left l = l.left
