-- The numbers of the high bytes that are left are still to be counted.
use Rattle.std.proofs.Common.{◌≡◌, ◌+◌, drop, length}
use Rattle.bitpack_slices.proofs.lemmas.bits.UnpackLaws.{by_high}
use Rattle.bitpack_slices.proofs.bitmap.unpacking.count_bitmap.Given as goal
use Rattle.bitpack_slices.specs.Bitmaps.{has_bit}

abbrev pub invariant-loop-high : goal.invariant-loop-high
invariant-loop-high l = l.count + length (by_high (has_bit l.words) (drop l.high-index l.highs)) ≡ length (by_high (has_bit l.words) l.highs)
