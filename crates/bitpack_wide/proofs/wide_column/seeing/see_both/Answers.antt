-- A part more is seen.
use Rattle.std.proofs.Common.{refl, arith}
use Rattle.bitpack_wide.proofs.WideSeen.{rises_start, sees_start}
use Rattle.bitpack_wide.proofs.wide_column.seeing.see_both.Goals as goal

pub loop-from-init : goal.loop-from-init
loop-from-init c = record { within = omega arith; sees = sees_start _; rises = rises_start _; start = λ e. refl }
