-- The entries and bodies of what is left are still to be written.
use Rattle.std.proofs.Common.{length}
use Rattle.bitpack_sets.proofs.lemmas.written.EntriesFilled.{EntriesLeft}
use Rattle.bitpack_sets.proofs.encoding.chunks.write_entries.Given as goal

abbrev pub invariant-loop-left : goal.invariant-loop-left
invariant-loop-left l = EntriesLeft l.ids l.left l.start l.before l.index l.end l.sum l.end_size l.sum_size l.keys l.ends l.sums l.out

abbrev pub decreases-loop-left : goal.decreases-loop-left
decreases-loop-left l = length l.left
