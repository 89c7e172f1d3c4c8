-- The ids so far increase.
use Rattle.bitpack_sets.proofs.ForCallers.{RisesTo}
use Rattle.bitpack_wide.proofs.encoding.order.first_unsorted.Given as goal

abbrev pub invariant-loop-index : goal.invariant-loop-index
invariant-loop-index l = RisesTo l.ids l.index
