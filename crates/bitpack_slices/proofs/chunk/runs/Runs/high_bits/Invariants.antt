-- A high byte is in a run so far, or in one of those that are left.
use Rattle.std.proofs.Common.{◌≡◌, ◌||◌, ℕ}
use Rattle.bitpack_slices.proofs.chunk.runs.Runs.high_bits.Given as goal
use Rattle.bitpack_slices.specs.Bitmaps.{has_bit, has_high}
use Rattle.bitpack_slices.specs.Runs.{runs_from}

abbrev pub invariant-loop-index : goal.invariant-loop-index
invariant-loop-index l = (h : ℕ) → has_high h (runs_from 0 l.self.bounds.now) ≡ (has_bit l.highs h || has_high h (runs_from l.index l.self.bounds.now))
