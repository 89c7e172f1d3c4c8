-- The worked columns, by computing.
use Rattle.std.proofs.Common.{refl}
use Rattle.bitpacking.specs.Layout.{codes_of, place}
use Rattle.bitpacking.specs.Words.{joined}
use Rattle.bitpack_groups.specs.Numbers.{count_fault, going_on, number_end, number_fault, number_in, number_value, short_at}
use Rattle.bitpack_groups.specs.Groups.{after_groups, are_loose, group_fault, groups_codes, groups_fault}
use Rattle.bitpack_groups.specs.Packed.{group, groups, le_bytes, packed, width_from}
use Rattle.bitpack_columns.specs.Columns.{blocks_encoding, encoding, header_encoding, least, packed_block, sum_to, tail_encoding}
use Rattle.bitpack_columns.specs.Faults.{blocks_fault, body_fault, end_fault, fault, first_below, first_of, first_out, header_fault, least_fault, least_number_fault, loose_sizes_fault, rest_fault, sizes_fault, tail_fault}
use Rattle.bitpack_columns.specs.Stated.{values_in}
use Rattle.bitpack_columns.specs.WorkedColumns.{WorkedLong, WorkedShort}
use Rattle.bitpack_columns.specs.WorkedFaults.{WorkedFaults, WorkedReads}

pub worked_short : WorkedShort
unfolding number_in le_bytes width_from packed group groups least header_encoding tail_encoding encoding
worked_short = (refl, refl, refl, refl, refl, refl, refl, refl, refl, refl, refl)

pub worked_long : WorkedLong
unfolding number_in le_bytes width_from packed group groups joined least packed_block sum_to blocks_encoding header_encoding tail_encoding encoding
worked_long = (refl, refl, refl, refl, refl, refl, refl, refl)

pub worked_faults : WorkedFaults
unfolding number_fault number_value number_end going_on count_fault joined groups_fault group_fault groups_codes after_groups are_loose codes_of place short_at least first_of first_below first_out sizes_fault end_fault loose_sizes_fault body_fault blocks_fault least_number_fault least_fault tail_fault rest_fault header_fault fault
worked_faults = (refl, refl, refl, refl, refl, refl, refl, refl, refl, refl, refl, refl, refl, refl, refl, refl, refl, refl)

pub worked_reads : WorkedReads
unfolding number_fault number_value number_end going_on count_fault joined groups_fault group_fault groups_codes after_groups are_loose codes_of place short_at least first_of first_below first_out sizes_fault end_fault loose_sizes_fault body_fault blocks_fault least_number_fault least_fault tail_fault rest_fault header_fault fault values_in
worked_reads = (refl, refl, refl, refl)
