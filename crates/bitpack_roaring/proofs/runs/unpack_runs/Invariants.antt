-- The runs so far are unpacked.
use Rattle.std.proofs.Common.{◌≡◌, ◌+◌, ◌*◌, ◌++◌, ℕ, drop, length, map, take}
use Rattle.bitpack_slices.specs.Bodies.{IsRising}
use Rattle.bitpack_slices.specs.Runs.{run_numbers}
use Rattle.bitpack_slices.specs.Slices.{pairs_of}
use Rattle.bitpack_roaring.specs.Roaring.{bounds_of}
use Rattle.bitpack_roaring.proofs.runs.unpack_runs.Given as goal

abbrev pub invariant-loop-index : goal.invariant-loop-index
invariant-loop-index l = record {
  long : length l.out ≡ length l.fn.out;
  next : l.next + length (run_numbers (bounds_of (drop (2 * l.index) (pairs_of l.runs)))) ≡ l.at + length (run_numbers (bounds_of (pairs_of l.runs)));
  values : take l.next l.out ++ map (λ i. l.base + i) (run_numbers (bounds_of (drop (2 * l.index) (pairs_of l.runs))))
      ≡ take l.at l.fn.out ++ map (λ i. l.base + i) (run_numbers (bounds_of (pairs_of l.runs)));
  low : ℕ;
  apart : IsRising low 65537 (bounds_of (drop (2 * l.index) (pairs_of l.runs)));
}
