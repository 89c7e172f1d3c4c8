-- The worked wide columns, by computing.
use Rattle.std.proofs.Common.{refl}
use Rattle.bitpacking.specs.Layout.{codes_of, place}
use Rattle.bitpacking.specs.Words.{joined}
use Rattle.bitpack_groups.specs.Groups.{after_groups, are_loose, group_fault, groups_codes, groups_fault}
use Rattle.bitpack_groups.specs.Numbers.{count_fault, going_on, number_end, number_fault, number_in, number_value, short_at}
use Rattle.bitpack_groups.specs.Packed.{group, groups, le_bytes, packed, width_from}
use Rattle.bitpack_sets.specs.Faults as set_faults
use Rattle.bitpack_sets.specs.Reads as set_reads
use Rattle.bitpack_sets.specs.Sets as sets
use Rattle.bitpack_columns.specs.Columns as columns
use Rattle.bitpack_columns.specs.Faults as column_faults
use Rattle.bitpack_columns.specs.Stated.{values_in}
use Rattle.bitpack_wide.specs.WideColumnFaults.{chunk_fault, directory_fault, each_below, end_fault, fault, first_of, high_fault, last_before, loose_fault, loose_sizes_fault, low_fault, missing_fault, rest_fault, sizes_fault}
use Rattle.bitpack_wide.specs.WideColumnReads.{highs_at, lows_at, values_at}
use Rattle.bitpack_wide.specs.WideColumns.{chunk_of, column, encoding, filled, greatest, least, missing_from, rise_from, there}
use Rattle.bitpack_wide.specs.WorkedWideColumns.{WorkedHigh, WorkedLow}
use Rattle.bitpack_wide.specs.WorkedWideFaults.{WorkedDirectories, WorkedParts}

pub worked_low : WorkedLow
unfolding number_in le_bytes width_from packed group groups number_fault number_value number_end going_on count_fault joined groups_fault group_fault groups_codes after_groups are_loose codes_of place short_at sets.gaps sets.short sets.encoding sets.sums set_faults.fault set_faults.short_fault set_faults.some_fault set_faults.first_over set_faults.ids_from set_reads.ids_in columns.least columns.header_encoding columns.tail_encoding columns.encoding column_faults.header_fault column_faults.rest_fault column_faults.tail_fault column_faults.least_number_fault column_faults.least_fault column_faults.first_out column_faults.first_below column_faults.fault values_in chunk_fault directory_fault each_below end_fault fault first_of high_fault last_before loose_fault loose_sizes_fault low_fault missing_fault rest_fault sizes_fault highs_at lows_at values_at chunk_of column encoding filled greatest least missing_from rise_from there
worked_low = ((refl, refl, refl), (refl, refl, refl), (refl, refl, refl), (refl, refl, refl), (refl, refl, refl), (refl, refl, refl))

pub worked_high : WorkedHigh
unfolding number_in le_bytes width_from packed group groups number_fault number_value number_end going_on count_fault joined groups_fault group_fault groups_codes after_groups are_loose codes_of place short_at sets.gaps sets.short sets.encoding sets.sums set_faults.fault set_faults.short_fault set_faults.some_fault set_faults.first_over set_faults.ids_from set_reads.ids_in columns.least columns.header_encoding columns.tail_encoding columns.encoding column_faults.header_fault column_faults.rest_fault column_faults.tail_fault column_faults.least_number_fault column_faults.least_fault column_faults.first_out column_faults.first_below column_faults.fault values_in chunk_fault directory_fault each_below end_fault fault first_of high_fault last_before loose_fault loose_sizes_fault low_fault missing_fault rest_fault sizes_fault highs_at lows_at values_at chunk_of column encoding filled greatest least missing_from rise_from there
worked_high = ((refl, refl, refl), (refl, refl, refl), (refl, refl, refl), (refl, refl, refl), (refl, refl, refl), (refl, refl, refl))

pub worked_directories : WorkedDirectories
unfolding number_fault number_value number_end going_on count_fault joined short_at each_below directory_fault end_fault fault first_of loose_sizes_fault rest_fault sizes_fault
worked_directories = (refl, refl, refl, refl, refl, refl, refl, refl, refl, refl, refl, refl, refl, refl, refl, refl, refl)

pub worked_parts : WorkedParts
unfolding number_fault number_value number_end going_on count_fault joined groups_fault group_fault groups_codes after_groups are_loose codes_of place short_at set_faults.fault set_faults.short_fault set_faults.some_fault set_faults.first_over set_faults.ids_from set_reads.ids_in columns.least column_faults.header_fault column_faults.rest_fault column_faults.tail_fault column_faults.least_number_fault column_faults.least_fault column_faults.first_out column_faults.first_below column_faults.fault values_in chunk_fault directory_fault each_below end_fault fault first_of high_fault last_before loose_fault loose_sizes_fault low_fault missing_fault rest_fault sizes_fault highs_at lows_at
worked_parts = (refl, refl, refl, refl, refl, refl, refl, refl, refl, refl, refl)
