-- The sums of the values so far are there, and nothing else was written.
use Rattle.std.proofs.Common.{◌≡◌, ℕ, ◌+◌, ◌-◌, ◌<◌, ◌≤◌, get_or, length}
use Rattle.bitpack_columns.specs.Opened.{values}
use Rattle.bitpacking_c.proofs.column_wide.copy_sums.Given as goal

abbrev pub invariant-loop-done : goal.invariant-loop-done
invariant-loop-done l = record {
  long : length l.out ≡ length l.fn.out;
  within : l.done ≤ length (values l.column);
  sums : (k : ℕ) → k < l.done → get_or l.out k 0 ≡ l.base + get_or (values l.column) k 0;
  rest : (k : ℕ) → l.done ≤ k → get_or l.out k 0 ≡ get_or l.fn.out k 0;
}

abbrev pub decreases-loop-done : goal.decreases-loop-done
decreases-loop-done l = length (values l.column) - l.done
