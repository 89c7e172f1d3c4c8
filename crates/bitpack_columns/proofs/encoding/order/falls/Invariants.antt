-- If none so far falls, there is no position.
use Rattle.std.proofs.Common.{◌≡◌, false, None, take}
use Rattle.bitpack_columns.proofs.encoding.order.falls.Given as goal
use Rattle.bitpack_columns.specs.Faults.{first_below}

abbrev pub invariant-loop-index : goal.invariant-loop-index
invariant-loop-index l = l.falls ≡ false → first_below 0 l.before (take l.index l.values) ≡ None
