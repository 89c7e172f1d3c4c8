-- The value so far is the one at the index before, up to the last.
use Rattle.std.proofs.Common.{◌≡◌, ◌+◌, ◌∷◌, get_or, min}
use Rattle.bitpack_columns.specs.declared.column_kind.ColumnKind.TheVariants.{Sorted}
use Rattle.bitpack_columns.specs.Reads.{values_of}
use Rattle.bitpack_columns.proofs.column.getting.sum.Given as goal

abbrev pub invariant-loop-index : goal.invariant-loop-index
invariant-loop-index l = record {
  value : l.value ≡ get_or (l.before ∷ values_of Sorted l.before l.codes) (min l.index (l.last + 1)) 0;
}
