-- The greatest mark so far.
use Rattle.std.proofs.Common.{◌≡◌}
use Rattle.bitpack_columns.specs.Columns.{mark_in}
use Rattle.bitpack_columns.specs.Numbers.{greatest}
use Rattle.bitpack_columns.specs.Opened.{values}
use Rattle.bitpack_columns.proofs.reads.copying.front_greatest.Given as goal

abbrev pub invariant-loop-block : goal.invariant-loop-block
invariant-loop-block l = l.greatest ≡ greatest (mark_in l.column.kind (values l.column)) l.block
