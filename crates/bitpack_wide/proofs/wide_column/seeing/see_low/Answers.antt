-- Nothing was seen yet.
use Rattle.std.proofs.Common.{arith}
use Rattle.bitpack_wide.proofs.WideSeen.{sees_start}
use Rattle.bitpack_wide.proofs.wide_column.seeing.see_low.Goals as goal

pub loop-from-init : goal.loop-from-init
loop-from-init c = record { within = omega arith; sees = sees_start _ }
