-- The words of the ids that are left are still to be written.
use Rattle.std.proofs.Common.{drop}
use Rattle.bitpack_groups.proofs.ForCallers.{IsFilled}
use Rattle.bitpack_wide.specs.Wide.{highs}
use Rattle.bitpack_wide.proofs.encoding.order.copy_highs.Given as goal

abbrev pub invariant-loop-index : goal.invariant-loop-index
invariant-loop-index l = IsFilled l.out l.index (highs (drop l.index l.ids)) (highs l.ids)
