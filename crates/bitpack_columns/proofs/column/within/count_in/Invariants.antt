-- The values so far that are within the range were counted.
use Rattle.std.proofs.Common.{◌≡◌, ◌≤◌, length, get_or}
use Rattle.bitpack_columns.specs.Ranges.{is_between}
use Rattle.bitpack_columns.proofs.RangeLaws.{passing}
use Rattle.bitpack_columns.proofs.column.within.count_in.Given as goal

abbrev pub invariant-loop-index : goal.invariant-loop-index
invariant-loop-index l = record {
  few : l.count ≤ l.index;
  counted : l.count ≡ length (passing (λ k. is_between l.low l.high (get_or l.values k 0)) 0 l.index);
}
