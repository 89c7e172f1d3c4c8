-- What is left tells the whole.
use Rattle.std.proofs.Common.{◌≡◌, ◌*◌, drop}
use Rattle.bitpack_slices.proofs.slice.testing.are_bits.Given as goal
use Rattle.bitpack_slices.specs.Slices.{AreSlices}

abbrev pub invariant-loop-less : goal.invariant-loop-less
invariant-loop-less l = record {
  offset : l.offset ≡ 32 * l.less-index;
  some : AreSlices l.counts l.bytes → AreSlices (drop l.less-index l.counts) (drop l.offset l.bytes);
  all : AreSlices (drop l.less-index l.counts) (drop l.offset l.bytes) → AreSlices l.counts l.bytes;
}
