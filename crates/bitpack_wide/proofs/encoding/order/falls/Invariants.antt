-- If no id so far falls, they increase.
use Rattle.std.proofs.Common.{◌≡◌, false}
use Rattle.bitpack_sets.proofs.ForCallers.{RisesTo}
use Rattle.bitpack_wide.proofs.encoding.order.falls.Given as goal

abbrev pub invariant-loop-index : goal.invariant-loop-index
invariant-loop-index l = l.falls ≡ false → RisesTo l.ids l.index
