-- The lowest bytes from `from` on, and the slices from `begin` on, are still to be written.
use Rattle.bitpack_sets.proofs.lemmas.written.PartsFilled.{SlicesLeft}
use Rattle.bitpack_sets.proofs.encoding.bodies.write_slices.Given as goal

abbrev pub invariant-loop-index : goal.invariant-loop-index
invariant-loop-index l = SlicesLeft l.ids l.ends l.out l.index l.from l.begin l.written
