-- The worked bitmaps, by computing.
use Rattle.std.proofs.Common.{refl}
use Rattle.bitpacking.specs.Words.{joined}
use Rattle.bitpack_slices.specs.Bodies.{bits, le_bytes, parts, with_number}
use Rattle.bitpack_slices.specs.Runs.{run_numbers}
use Rattle.bitpack_slices.specs.Slices.{first_fall, number_of, ones_from, pairs_of}
use Rattle.bitpack_roaring.specs.Faults.{container_fault, cookie_fault, fault, first_of, head_fault, key_fault, numbers_fault, offset_fault, rise_between}
use Rattle.bitpack_roaring.specs.Roaring.{bounds_of, containers, count_at, has_offsets, has_runs, head_len, is_run, key_at, keys_start, numbers_of, offset_at, position_at, short_at, size_from, start_at}
use Rattle.bitpack_roaring.specs.WorkedBitmaps.{WorkedBitmaps, WorkedBits}
use Rattle.bitpack_roaring.specs.Written.{container, cookie, flagged, roaring, runs_of, starts, with_first}
use Rattle.bitpack_roaring.specs.WorkedBytes.{WorkedBytes}
use Rattle.bitpack_roaring.specs.WorkedFaults.{WorkedCounts, WorkedFaults}

pub worked_bitmaps : WorkedBitmaps
unfolding joined short_at has_runs containers keys_start has_offsets head_len key_at count_at is_run size_from start_at bounds_of run_numbers pairs_of number_of ones_from numbers_of
worked_bitmaps = (refl, refl, refl, refl, refl, refl, refl, refl)

pub worked_bits : WorkedBits
unfolding joined short_at has_runs containers keys_start has_offsets head_len key_at count_at is_run size_from start_at bounds_of run_numbers pairs_of number_of ones_from numbers_of
worked_bits = (refl, refl, refl)

pub worked_faults : WorkedFaults
unfolding joined short_at has_runs containers keys_start has_offsets head_len key_at count_at offset_at is_run size_from start_at position_at bounds_of run_numbers pairs_of number_of ones_from numbers_of first_fall first_of cookie_fault head_fault key_fault offset_fault rise_between numbers_fault container_fault fault
worked_faults = (refl, refl, refl, refl, refl, refl, refl, refl, refl, refl, refl, refl, refl, refl, refl, refl, refl, refl, refl, refl, refl, refl, refl, refl, refl, refl, refl, refl, refl, refl, refl, refl)

pub worked_counts : WorkedCounts
unfolding joined short_at has_runs containers keys_start has_offsets head_len key_at count_at offset_at is_run size_from start_at position_at bounds_of run_numbers pairs_of number_of ones_from numbers_of first_fall first_of cookie_fault head_fault key_fault offset_fault rise_between numbers_fault container_fault fault
worked_counts = (refl, refl, refl, refl)

pub worked_bytes : WorkedBytes
unfolding le_bytes bits with_number parts with_first runs_of container starts flagged cookie roaring
worked_bytes = (refl, refl, refl, refl, refl, refl, refl, refl, refl, refl, refl, refl, refl)
