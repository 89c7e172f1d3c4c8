-- The codes so far, with those of the values that are left, are the codes.
use Rattle.std.proofs.Common.{◌≡◌, ◌++◌, take, drop, length}
use Rattle.bitpack_columns.specs.Columns.{codes}
use Rattle.bitpack_columns.specs.declared.column_kind.ColumnKind.TheVariants.{Sorted}
use Rattle.bitpack_columns.proofs.encoding.parts.take_apart.Given as goal

abbrev pub invariant-loop-index : goal.invariant-loop-index
invariant-loop-index l = record {
  codes : take l.index l.out ++ codes Sorted l.last (drop l.index l.values) ≡ codes Sorted l.before l.values;
  long : length l.out ≡ length l.values;
}
