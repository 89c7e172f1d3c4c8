-- What was seen of the differences so far.
use Rattle.std.proofs.Common.{◌≡◌, ◌+◌, ℕ}
use Rattle.bitpack_wide.specs.inner.WideColumnSteps.{Sees, SeesRise}
use Rattle.bitpack_wide.specs.WideColumnSound.{IsPart}
use Rattle.bitpack_wide.proofs.wide_column.seeing.see_part.Given as goal

abbrev pub invariant-loop-index : goal.invariant-loop-index
invariant-loop-index l = record {
  sees : (number : ℕ → ℕ) (from : ℕ) → IsPart number from l.part → Sees number from l.fn.seen.zero l.fn.seen.most
      → Sees number (from + l.index) l.next.zero l.next.most;
  rises : (number : ℕ → ℕ) (from : ℕ) → IsPart number from l.part → SeesRise number from l.fn.seen.rises l.fn.seen.last → (from ≡ 0 → l.fn.seen.last ≡ 0)
      → SeesRise number (from + l.index) l.next.rises l.next.last;
  start : (from : ℕ) → (from ≡ 0 → l.fn.seen.last ≡ 0) → from + l.index ≡ 0 → l.next.last ≡ 0;
}
