-- The ends up to an id are filled in.
use Rattle.bitpack_sets.proofs.lemmas.written.EndsFilled.{EndsFilled}
use Rattle.bitpack_sets.proofs.encoding.bodies.fill_ends.Given as goal

abbrev pub invariant-loop-index : goal.invariant-loop-index
invariant-loop-index l = EndsFilled l.ids l.ends l.index l.slot
