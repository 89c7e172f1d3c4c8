-- The counts and slices of the high bytes that are left are still to be written.
use Rattle.bitpack_slices.proofs.lemmas.bodies.KeptLaws.{KeptLeft}
use Rattle.bitpack_slices.proofs.lemmas.slices.SelectionLaws.{passes}
use Rattle.bitpack_slices.proofs.blocks.writing.put_slices.Given as goal

abbrev pub invariant-loop-index : goal.invariant-loop-index
invariant-loop-index l = KeptLeft (passes l.operation l.a l.b) l.highs l.occurring l.counts l.slices l.index l.count l.kept l.next
