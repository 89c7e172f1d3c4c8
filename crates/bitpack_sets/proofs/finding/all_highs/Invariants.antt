use Rattle.std.proofs.Common.{◌≡◌, length, take}
use Rattle.std.specs.List.{range_with_len}
use Rattle.bitpack_sets.proofs.finding.all_highs.Given as goal

abbrev pub invariant-loop-high : goal.invariant-loop-high
invariant-loop-high l = record {
  done : take l.high l.highs ≡ range_with_len 0 l.high;
  long : length l.highs ≡ 256;
}
