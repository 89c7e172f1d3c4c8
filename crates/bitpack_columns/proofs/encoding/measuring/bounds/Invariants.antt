-- The least of the values so far and those that are left is the least of all; the greatest so far.
use Rattle.std.proofs.Common.{◌≡◌, ◌<◌, ◌^◌, drop, slice_index}
use Rattle.std.specs.Prelude.{min}
use Rattle.bitpack_columns.specs.Columns.{least}
use Rattle.bitpack_columns.specs.Numbers.{greatest}
use Rattle.bitpack_columns.proofs.encoding.measuring.bounds.Given as goal

abbrev pub invariant-loop-index : goal.invariant-loop-index
invariant-loop-index l = record {
  small : l.least < 2 ^ 32;
  least : min l.least (least (drop l.index l.values)) ≡ least l.values;
  greatest : l.greatest ≡ greatest (slice_index l.values) l.index;
}
