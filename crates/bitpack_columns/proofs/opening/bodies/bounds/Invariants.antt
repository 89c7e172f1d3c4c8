-- The least and the greatest code so far.
use Rattle.std.proofs.Common.{◌≡◌, slice_index, take}
use Rattle.bitpack_columns.specs.Columns.{least}
use Rattle.bitpack_columns.specs.Numbers.{greatest}
use Rattle.bitpack_columns.proofs.opening.bodies.bounds.Given as goal

abbrev pub invariant-loop-index : goal.invariant-loop-index
invariant-loop-index l = record {
  least : l.least ≡ least (take l.index l.codes);
  greatest : l.greatest ≡ greatest (slice_index l.codes) l.index;
}
