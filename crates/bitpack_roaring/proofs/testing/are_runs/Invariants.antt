-- The runs so far are apart.
use Rattle.std.proofs.Common.{◌≡◌, ◌+◌, ◌*◌, ◌≤◌, drop, length}
use Rattle.bitpack_slices.specs.Runs.{run_numbers}
use Rattle.bitpack_slices.specs.Slices.{pairs_of}
use Rattle.bitpack_roaring.specs.Faults.{rise_between}
use Rattle.bitpack_roaring.specs.Roaring.{bounds_of}
use Rattle.bitpack_roaring.proofs.testing.are_runs.Given as goal

abbrev pub invariant-loop-index : goal.invariant-loop-index
invariant-loop-index l = record {
  apart : rise_between 0 65537 (bounds_of (pairs_of l.runs)) ≡ rise_between l.least 65537 (bounds_of (drop (2 * l.index) (pairs_of l.runs)));
  counted : length (run_numbers (bounds_of (pairs_of l.runs))) ≡ l.numbers + length (run_numbers (bounds_of (drop (2 * l.index) (pairs_of l.runs))));
  few : l.numbers ≤ l.least;
  within : l.least ≤ 65537;
}
