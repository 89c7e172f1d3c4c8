-- The sums that are left are still to be written.
use Rattle.bitpack_sets.proofs.lemmas.written.GatheredLaws.{SumsLeft}
use Rattle.bitpack_sets.proofs.encoding.gathered.write_sums.Given as goal

abbrev pub invariant-loop-index : goal.invariant-loop-index
invariant-loop-index l = SumsLeft l.size l.values l.index l.sum l.out
