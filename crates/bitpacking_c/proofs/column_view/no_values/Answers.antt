-- The one byte of the empty plain column, by computing.
use Rattle.std.proofs.Common.{refl, ap}
use Rattle.bitpack_columns.specs.Faults.{fault, first_out, header_fault, least_fault, least_number_fault, rest_fault, tail_fault}
use Rattle.bitpack_columns.specs.Numbers.{after_groups, groups_codes, groups_fault}
use Rattle.bitpack_columns.specs.Stated.{values_in}
use Rattle.bitpacking_c.proofs.column_view.no_values.Goals as goal

pub of_tested-requires : goal.of_tested-requires
unfolding groups_fault groups_codes after_groups least_number_fault least_fault first_out tail_fault rest_fault header_fault fault
of_tested-requires c = record { sound = refl }

pub returns-clause-values : goal.returns-clause-values
unfolding groups_codes values_in
returns-clause-values c = ap values_in c.of_tested.ensures.bytes
