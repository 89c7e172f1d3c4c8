-- The words of the ids that are left are still to be written.
use Rattle.std.proofs.Common.{drop}
use Rattle.bitpack_groups.proofs.ForCallers.{IsFilled}
use Rattle.bitpack_wide.specs.Wide.{lows}
use Rattle.bitpack_wide.proofs.encoding.order.copy_lows.Given as goal

abbrev pub invariant-loop-index : goal.invariant-loop-index
invariant-loop-index l = IsFilled l.out l.index (lows (drop l.index l.ids)) (lows l.ids)
