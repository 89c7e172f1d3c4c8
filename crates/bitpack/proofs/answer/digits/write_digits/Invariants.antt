-- How many digits were written.
use Rattle.bitpack.proofs.Digits.{DigitsAfter}
use Rattle.bitpack.proofs.answer.digits.write_digits.Given as goal

-- the digits of `left` come before those that were written
abbrev pub invariant-loop-left : goal.invariant-loop-left
invariant-loop-left l = DigitsAfter l.value l.bytes l.start l.left

abbrev pub decreases-loop-left : goal.decreases-loop-left
decreases-loop-left l = l.left
