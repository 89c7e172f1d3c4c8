-- The worked sets, by computing.
use Rattle.std.proofs.Common.{refl}
use Rattle.bitpacking.specs.Layout.{codes_of, place}
use Rattle.bitpacking.specs.Words.{joined}
use Rattle.bitpack_groups.specs.Groups.{after_groups, are_loose, group_fault, groups_codes, groups_fault}
use Rattle.bitpack_groups.specs.Numbers.{going_on, number_end, number_fault, number_in, number_value, short_at}
use Rattle.bitpack_groups.specs.Packed.{group, groups, le_bytes, packed, width_from}
use Rattle.bitpack_slices.specs.Bodies.{parts, with_number}
use Rattle.bitpack_slices.specs.Slices.{first_fall, quads_of}
use Rattle.bitpack_sets.specs.Faults as set_faults
use Rattle.bitpack_sets.specs.Reads as set_reads
use Rattle.bitpack_sets.specs.Sets as sets
use Rattle.bitpack_columns.specs.Columns as columns
use Rattle.bitpack_columns.specs.Faults as column_faults
use Rattle.bitpack_columns.specs.Stated as column_reads
use Rattle.bitpack_wide.specs.Faults.{body_fault, column_fault, count_fault, entry_fault, fault, first_of, in_spread_fault, in_words_fault, loose_sizes_fault, sizes_fault, spread_fault, word_count_fault, words_fault}
use Rattle.bitpack_wide.specs.Reads.{ids_in, paired}
use Rattle.bitpack_wide.specs.Wide.{encoding, in_words, spread}
use Rattle.bitpack_wide.specs.WorkedFaults.{WorkedChanges, WorkedColumns, WorkedCounts}
use Rattle.bitpack_wide.specs.WorkedSets.{WorkedSpread, WorkedWords}

pub worked_spread : WorkedSpread
unfolding number_in le_bytes width_from packed group groups number_fault number_value number_end going_on joined groups_codes after_groups codes_of place quads_of parts with_number columns.header_encoding columns.tail_encoding columns.encoding column_reads.values_in spread encoding ids_in paired
worked_spread = ((refl, refl), (refl, refl), (refl, refl), (refl, refl), (refl, refl))

pub worked_words : WorkedWords
unfolding number_in le_bytes width_from packed group groups number_fault number_value number_end going_on joined groups_codes after_groups codes_of place short_at parts with_number sets.gaps sets.short sets.encoding sets.sums set_faults.ids_from set_reads.ids_in in_words encoding ids_in paired
worked_words = ((refl, refl), (refl, refl))

pub worked_counts : WorkedCounts
unfolding number_fault number_value number_end going_on joined short_at count_fault word_count_fault sizes_fault words_fault in_words_fault spread_fault in_spread_fault fault
worked_counts = (refl, refl, refl, refl, refl, refl, refl, refl, refl, refl)

pub worked_columns : WorkedColumns
unfolding number_fault number_value number_end going_on joined groups_fault group_fault groups_codes after_groups are_loose codes_of place quads_of parts with_number first_fall column_faults.header_fault column_faults.rest_fault column_faults.tail_fault column_faults.least_number_fault column_faults.least_fault column_faults.first_out column_faults.first_below column_faults.fault column_reads.values_in count_fault column_fault spread_fault in_spread_fault fault paired columns.least
worked_columns = (refl, refl, refl, refl, refl, refl, refl, refl, refl)

pub worked_changes : WorkedChanges
unfolding number_fault number_value number_end going_on joined groups_fault group_fault groups_codes after_groups are_loose codes_of place short_at set_faults.fault set_faults.short_fault set_faults.some_fault set_faults.first_over set_faults.ids_from set_reads.ids_in count_fault word_count_fault sizes_fault entry_fault loose_sizes_fault body_fault first_of words_fault in_words_fault fault
worked_changes = (refl, refl, refl, refl, refl, refl, refl, refl, refl, refl, refl, refl, refl, refl)
