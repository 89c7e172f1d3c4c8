-- The codes so far are replaced by their values, and the others are as they were.
use Rattle.std.proofs.Common.{drop}
use Rattle.bitpack_columns.specs.declared.column_kind.ColumnKind.TheVariants.{Sorted}
use Rattle.bitpack_columns.specs.Reads.{values_of}
use Rattle.bitpack_columns.proofs.ValueLaws.{Replaces}
use Rattle.bitpack_columns.proofs.tail.add_up.Given as goal

abbrev pub invariant-loop-index : goal.invariant-loop-index
invariant-loop-index l = Replaces l.fn.codes l.codes l.index (values_of Sorted l.value (drop l.index l.fn.codes)) (values_of Sorted l.base l.fn.codes)
