-- What was seen of the numbers so far.
use Rattle.std.proofs.Common.{◌+◌, ℕ}
use Rattle.bitpack_wide.specs.inner.WideColumnSteps.{Sees}
use Rattle.bitpack_wide.specs.WideColumnSound.{IsPart}
use Rattle.bitpack_wide.proofs.wide_column.seeing.see_words.Given as goal

abbrev pub invariant-loop-index : goal.invariant-loop-index
invariant-loop-index l = (number : ℕ → ℕ) (from : ℕ) → IsPart number from l.part → Sees number from l.zero l.most → Sees number (from + l.index) l.found l.greatest
