-- What is left tells the whole.
use Rattle.std.proofs.Common.{◌≤◌, length, drop}
use Rattle.bitpack_slices.proofs.slice.testing.are_mixed.Given as goal
use Rattle.bitpack_slices.specs.Slices.{AreSlices}

abbrev pub invariant-loop-less : goal.invariant-loop-less
invariant-loop-less l = record {
  within : l.offset ≤ length l.bytes;
  some : AreSlices l.counts l.bytes → AreSlices (drop l.less-index l.counts) (drop l.offset l.bytes);
  all : AreSlices (drop l.less-index l.counts) (drop l.offset l.bytes) → AreSlices l.counts l.bytes;
}
