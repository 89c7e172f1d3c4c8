-- Whether the numbers so far fall.
use Rattle.std.proofs.Common.{◌≡◌, ◌+◌, ℕ, not, true}
use Rattle.bitpack_wide.specs.WideColumnFaults.{rise}
use Rattle.bitpack_wide.specs.inner.WideColumnSteps.{SeesRise}
use Rattle.bitpack_wide.specs.WideColumnSound.{IsPart}
use Rattle.bitpack_wide.proofs.wide_column.seeing.falls_after.Given as goal

abbrev pub invariant-loop-index : goal.invariant-loop-index
invariant-loop-index l =
    (number : ℕ → ℕ) (from : ℕ) → IsPart number from l.part → SeesRise number from true l.before → (from ≡ 0 → l.before ≡ 0)
    → l.falls ≡ not (rise number (from + l.index))
