-- The digits are written from the last to the first.
use Rattle.std.proofs.Common.{arith}
use Rattle.bitpack.proofs.Digits.{digits_begin, digits_done, digits_room, digits_step}
use Rattle.bitpack.proofs.answer.digits.write_digits.Goals as goal

pub loop-left-init : goal.loop-left-init
loop-left-init c = digits_begin c.args.value c.args.bytes.now (omega arith) (omega arith)

pub bounds-bytes-start : goal.bounds-bytes-start
bounds-bytes-start c = c.loop-left.invariant.within

pub overflow_sub-start-in-loop-left : goal.overflow_sub-start-in-loop-left
overflow_sub-start-in-loop-left c = digits_room _ _ _ _ c.loop-left.invariant (omega arith)

pub loop-left-preserved : goal.loop-left-preserved
loop-left-preserved c = digits_step _ _ _ _ c.loop-left.invariant (omega arith)

pub bounds-bytes-start-2 : goal.bounds-bytes-start-2
bounds-bytes-start-2 c = c.loop-left.invariant.within

pub returns-clause-within : goal.returns-clause-within
returns-clause-within c = omega (arith, c.loop-left.invariant.within)

pub returns-clause-digits : goal.returns-clause-digits
returns-clause-digits c = digits_done _ _ _ _ c.loop-left.invariant (omega arith)
