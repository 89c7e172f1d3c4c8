-- The bounds of the chunks so far.
use Rattle.std.proofs.Common.{◌≡◌, ◌*◌}
use Rattle.std.specs.Prelude.{take}
use Rattle.bitpack_wide.specs.WideColumns.{there}
use Rattle.bitpack_wide.specs.WideOpened.{bounds_of, values}
use Rattle.bitpack_wide.proofs.wide_column.WideColumn.all_bounds.Given as goal

abbrev pub invariant-loop-chunk : goal.invariant-loop-chunk
invariant-loop-chunk l = l.all ≡ bounds_of (there (take (65536 * l.chunk) (values l.self)))
