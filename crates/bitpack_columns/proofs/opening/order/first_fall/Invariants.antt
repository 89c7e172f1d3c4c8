-- None of the values so far is below the one before it.
use Rattle.std.proofs.Common.{◌≡◌, ◌+◌, drop}
use Rattle.bitpack_columns.specs.declared.column_kind.ColumnKind.TheVariants.{Sorted}
use Rattle.bitpack_columns.specs.Faults.{first_below}
use Rattle.bitpack_columns.specs.Reads.{values_of}
use Rattle.bitpack_columns.proofs.opening.order.first_fall.Given as goal

abbrev pub invariant-loop-index : goal.invariant-loop-index
invariant-loop-index l = record {
  values : l.codes ≡ values_of Sorted l.before l.fn.codes;
  left : first_below (l.position + l.index) l.last (drop l.index l.codes) ≡ first_below l.position l.before l.codes;
}
