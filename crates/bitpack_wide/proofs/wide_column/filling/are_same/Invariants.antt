-- The ids so far have the differences of the positions before them.
use Rattle.std.proofs.Common.{◌≡◌, ◌+◌, ℕ}
use Rattle.bitpack_wide.specs.WideColumnFaults.{each_below}
use Rattle.bitpack_wide.specs.WideColumnSound.{IsPart}
use Rattle.bitpack_wide.specs.inner.WideColumnSteps.{IsLast, same_at}
use Rattle.bitpack_wide.proofs.wide_column.filling.are_same.Given as goal

abbrev pub invariant-loop-index : goal.invariant-loop-index
invariant-loop-index l =
    (number : ℕ → ℕ) (begin from : ℕ) → IsPart number from l.part → begin + from ≡ l.position → IsLast number from l.last
    → l.right ≡ each_below (same_at number begin l.found 0) l.index
