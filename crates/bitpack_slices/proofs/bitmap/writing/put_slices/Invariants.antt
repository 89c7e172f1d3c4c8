-- The counts and slices of the high bytes that are left are still to be written.
use Rattle.bitpack_slices.proofs.lemmas.bodies.PartLaws.{PartsLeft}
use Rattle.bitpack_slices.proofs.bitmap.writing.put_slices.Given as goal
use Rattle.bitpack_slices.specs.Bitmaps.{has_bit}

abbrev pub invariant-loop-index : goal.invariant-loop-index
invariant-loop-index l = PartsLeft (has_bit l.words) l.highs l.fn.slices l.counts l.slices l.index l.end
