-- The entries and bodies of the ids that are left are still to be written.
use Rattle.std.proofs.Common.{◌-◌}
use Rattle.bitpack_sets.proofs.lemmas.written.RangeEntries.{RangeLeft}
use Rattle.bitpack_sets.proofs.encoding.range.write_entries.Given as goal

abbrev pub invariant-loop-sum : goal.invariant-loop-sum
invariant-loop-sum l = RangeLeft l.first l.count l.index l.end l.sum l.end_size l.sum_size l.keys l.ends l.sums l.out

abbrev pub decreases-loop-sum : goal.decreases-loop-sum
decreases-loop-sum l = l.count - l.sum
