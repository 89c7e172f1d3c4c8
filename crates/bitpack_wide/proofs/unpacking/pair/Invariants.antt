-- The ids so far are written.
use Rattle.std.proofs.Common.{◌≡◌, length, take}
use Rattle.bitpack_slices.specs.Slices.{quads_of}
use Rattle.bitpack_wide.specs.Reads.{paired}
use Rattle.bitpack_wide.proofs.unpacking.pair.Given as goal

abbrev pub invariant-loop-index : goal.invariant-loop-index
invariant-loop-index l = record {
  long : length l.out ≡ length l.fn.out;
  written : take l.index l.out ≡ take l.index (paired l.highs (quads_of l.lows));
}
