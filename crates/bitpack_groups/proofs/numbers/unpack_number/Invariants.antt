-- The varint ends at the current byte or after it, and the value is that of seven bits of the bytes so far.
use Rattle.std.proofs.Common.{◌≡◌, ◌+◌, ◌-◌, ◌*◌, ◌%◌, ◌^◌, ◌<◌, drop, get_or, length}
use Rattle.bitpacking.specs.Words.{joined}
use Rattle.bitpack_groups.specs.Numbers.{going_on}
use Rattle.bitpack_groups.proofs.numbers.unpack_number.Given as goal

abbrev pub invariant-loop-index : goal.invariant-loop-index
invariant-loop-index l = record {
  few : l.index < 5;
  within : l.index < length l.bytes;
  going : going_on 5 l.bytes ≡ l.index + going_on (5 - l.index) (drop l.index l.bytes);
  value : l.value ≡ joined 7 (λ i. get_or l.bytes i 0 % 128) (l.index + 1);
  below : l.value < 2 ^ (7 * (l.index + 1));
}

abbrev pub decreases-loop-index : goal.decreases-loop-index
decreases-loop-index l = 5 - l.index
