-- The bytes so far are cut out of the words.
use Rattle.std.proofs.Common.{◌≡◌, length}
use Rattle.bitpack_roaring.proofs.FlagLaws.{AreCut}
use Rattle.bitpack_roaring.proofs.entries.write_flags.Given as goal

abbrev pub invariant-loop-index : goal.invariant-loop-index
invariant-loop-index l = record {
  size : length l.out ≡ length l.fn.out;
  cut : AreCut l.flags l.out l.index;
}
