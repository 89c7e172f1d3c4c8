-- The high bytes and counts from `begin` on are still to be written.
use Rattle.bitpack_sets.proofs.lemmas.written.PartsFilled.{CountsLeft}
use Rattle.bitpack_sets.proofs.encoding.bodies.write_counts.Given as goal

abbrev pub invariant-loop-index : goal.invariant-loop-index
invariant-loop-index l = CountsLeft l.ids l.ends l.firsts l.less l.index l.begin
