-- All bytes so far say that another follows, and the value is that of their seven bits.
use Rattle.std.proofs.Common.{◌≡◌, ◌+◌, ◌-◌, ◌*◌, ◌%◌, ◌^◌, ◌<◌, ◌≤◌, length, drop, get_or}
use Rattle.bitpacking.specs.Words.{joined}
use Rattle.bitpack_groups.specs.Numbers.{going_on}
use Rattle.bitpack_groups.proofs.numbers.test_number.Given as goal

abbrev pub invariant-loop-index : goal.invariant-loop-index
invariant-loop-index l = record {
  within : l.index ≤ length l.bytes;
  going : going_on 5 l.bytes ≡ l.index + going_on (5 - l.index) (drop l.index l.bytes);
  value : l.value ≡ joined 7 (λ i. get_or l.bytes i 0 % 128) l.index;
  below : l.value < 2 ^ (7 * l.index);
}
