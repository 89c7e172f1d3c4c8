-- The worked sets, by computing.
use Rattle.std.proofs.Common.{refl}
use lib.Count.{ones}
use Rattle.bitpacking.specs.Layout.{codes_of, place}
use Rattle.bitpacking.specs.Words.{joined}
use Rattle.bitpack_slices.specs.Faults.{body_fault}
use Rattle.bitpack_sets.specs.Faults.{array_fault, body_fault_at, chunk_count_fault, chunks_fault, count_fault, entry_fault, fault, first_of, first_over, ids_fault, ids_from, in_chunks_fault, loose_sizes_fault, short_fault, sizes_fault, some_fault}
use Rattle.bitpack_slices.specs.Bodies.{bits, blocks_of, le_bytes, numbers, parts, slice, with_number}
use Rattle.bitpack_sets.specs.Sets.{array, body, encoding, gaps, group, groups, in_chunks, long, packed, short, sums, width_from}
use Rattle.bitpack_slices.specs.Runs.{boundaries, bounds_after, run_numbers, runs}
use Rattle.bitpack_slices.specs.Slices.{are_blocks, are_slices, bits_in, first_fall, number_of, numbers_in, numbers_of, ones_from, pairs_of, quads_of}
use Rattle.bitpack_sets.specs.Varints.{after_groups, are_loose, going_on, group_fault, groups_codes, groups_fault, number_end, number_fault, number_in, number_value, short_at}
use Rattle.bitpack_sets.specs.WorkedFaults.{WorkedChanges, WorkedFaults, WorkedRuns}
use Rattle.bitpack_sets.specs.WorkedSets.{WorkedFull, WorkedLong, WorkedShort}

pub worked_short : WorkedShort
unfolding number_in le_bytes gaps width_from packed group groups short encoding
worked_short = (refl, refl, refl, refl, refl, refl, refl, refl)

pub worked_long : WorkedLong
unfolding number_in le_bytes bits slice with_number parts blocks_of numbers boundaries bounds_after runs body sums in_chunks array long encoding
worked_long = (refl, refl, refl, refl, refl, refl, refl, refl, refl)

pub worked_full : WorkedFull
unfolding number_in le_bytes bits slice with_number parts blocks_of numbers boundaries bounds_after runs body sums in_chunks array long encoding
worked_full = refl

pub worked_faults : WorkedFaults
unfolding number_fault number_value number_end going_on count_fault joined groups_fault group_fault groups_codes after_groups are_loose codes_of place short_at first_of first_over ids_from some_fault short_fault sizes_fault chunk_count_fault chunks_fault in_chunks_fault quads_of ids_fault array_fault fault
worked_faults = (refl, refl, refl, refl, refl, refl, refl, refl, refl, refl, refl, refl, refl, refl, refl, refl, refl, refl, refl, refl, refl)

pub worked_changes : WorkedChanges
unfolding number_fault number_value number_end going_on count_fault joined short_at first_fall first_of bits_in numbers_in are_slices pairs_of are_blocks body_fault sizes_fault entry_fault body_fault_at loose_sizes_fault chunk_count_fault chunks_fault in_chunks_fault quads_of ids_fault array_fault fault bits le_bytes slice with_number parts blocks_of boundaries bounds_after run_numbers ones_from number_of numbers_of ones
worked_changes = (refl, refl, refl, refl, refl, refl, refl, refl, refl, refl, refl, refl, refl, refl, refl, refl, refl, refl, refl, refl, refl)

pub worked_runs : WorkedRuns
unfolding number_fault number_value number_end going_on count_fault joined short_at first_fall first_of bits_in numbers_in are_slices pairs_of are_blocks body_fault sizes_fault entry_fault body_fault_at loose_sizes_fault chunk_count_fault chunks_fault in_chunks_fault quads_of ids_fault array_fault fault bits le_bytes slice with_number parts blocks_of boundaries bounds_after run_numbers ones_from number_of numbers_of ones
worked_runs = (refl, refl, refl, refl, refl, refl, refl, refl)
