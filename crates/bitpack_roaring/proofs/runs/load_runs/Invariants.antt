-- The runs so far are loaded.
use Rattle.std.proofs.Common.{◌≡◌, ◌*◌, ◌||◌, ℕ, drop, length}
use Rattle.bitpack_slices.specs.Bitmaps.{has_bit}
use Rattle.bitpack_slices.specs.Bodies.{IsRising}
use Rattle.bitpack_slices.specs.Reads.{has}
use Rattle.bitpack_slices.specs.Runs.{run_numbers}
use Rattle.bitpack_slices.specs.Slices.{pairs_of}
use Rattle.bitpack_roaring.specs.Roaring.{bounds_of}
use Rattle.bitpack_roaring.proofs.runs.load_runs.Given as goal

abbrev pub invariant-loop-index : goal.invariant-loop-index
invariant-loop-index l = record {
  bits : (x : ℕ) → (has x (run_numbers (bounds_of (pairs_of l.runs))) || has_bit l.fn.words x)
      ≡ (has x (run_numbers (bounds_of (drop (2 * l.index) (pairs_of l.runs)))) || has_bit l.words x);
  low : ℕ;
  apart : IsRising low 65537 (bounds_of (drop (2 * l.index) (pairs_of l.runs)));
  long : length l.words ≡ 1024;
}
