-- A bit that was 1, or of a number, is 1 so far, or its number is in one of the runs that are left.
use Rattle.std.proofs.Common.{◌≡◌, ◌||◌, ℕ}
use Rattle.bitpack_slices.proofs.chunk.runs.Runs.set_bits.Given as goal
use Rattle.bitpack_slices.specs.Bitmaps.{has_bit}
use Rattle.bitpack_slices.specs.Reads.{has}
use Rattle.bitpack_slices.specs.Runs.{runs_from}

abbrev pub invariant-loop-index : goal.invariant-loop-index
invariant-loop-index l = (x : ℕ) → (has x (runs_from 0 l.self.bounds.now) || has_bit l.fn.words x) ≡ (has_bit l.words x || has x (runs_from l.index l.self.bounds.now))
