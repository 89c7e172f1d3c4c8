-- The bytes that are counted, with those of the number that is left, are one more than those of the number.
use Rattle.std.proofs.Common.{◌+◌, ◌≡◌, length}
use Rattle.bitpack_groups.specs.Numbers.{number}
use Rattle.bitpack_groups.proofs.numbers.number_len.Given as goal

abbrev pub invariant-loop-left : goal.invariant-loop-left
invariant-loop-left l = record { counted : l.len + length (number l.left) ≡ length (number l.value) + 1 }

abbrev pub decreases-loop-left : goal.decreases-loop-left
decreases-loop-left l = l.left
