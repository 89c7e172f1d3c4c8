-- No values are in order.
use Rattle.std.proofs.Common.{◌≡◌, [], None, refl, ap, arith}
use Rattle.std.specs.Option.{option_map}
use Rattle.bitpack_columns.specs.declared.column_error.ColumnError.TheVariants.{NotSorted}
use Rattle.bitpack_columns.specs.declared.column_kind.ColumnKind.{ColumnKind}
use Rattle.bitpack_columns.specs.declared.column_kind.ColumnKind.TheVariants.{Plain, Sorted}
use Rattle.bitpack_columns.specs.Faults.{first_out}
use Rattle.bitpacking_c.proofs.column_building.bitpacking_column_builder_start.Goals as goal

none_out : (kind : ColumnKind) → first_out kind 0 [] ≡ None
unfolding first_out
none_out Plain = refl
none_out Sorted = refl

pub invariant_of-builder : goal.invariant_of-builder
invariant_of-builder c = record { within = omega arith; column = ap (λ found. option_map NotSorted found) (none_out _) }
