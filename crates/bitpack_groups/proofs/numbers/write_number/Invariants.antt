-- What is written, with the bytes of the number that is left, are those of the number, and there is room for them.
use Rattle.std.proofs.Common.{◌+◌, ◌≡◌, ◌++◌, length, take}
use Rattle.bitpack_groups.specs.Numbers.{number}
use Rattle.bitpack_groups.proofs.numbers.write_number.Given as goal

abbrev pub invariant-loop-left : goal.invariant-loop-left
invariant-loop-left l = record {
  written : take l.len l.bytes ++ number l.left ≡ number l.value;
  counted : l.len + length (number l.left) ≡ length (number l.value);
  long : length l.bytes ≡ length l.fn.bytes;
}

abbrev pub decreases-loop-left : goal.decreases-loop-left
decreases-loop-left l = l.left
