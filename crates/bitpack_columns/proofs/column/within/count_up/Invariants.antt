-- The numbers so far are written.
use Rattle.std.proofs.Common.{◌≡◌, ℕ, ◌+◌, ◌<◌, length, get_or}
use Rattle.bitpack_columns.proofs.column.within.count_up.Given as goal

abbrev pub invariant-loop-index : goal.invariant-loop-index
invariant-loop-index l = record {
  long : length l.out ≡ length l.fn.out;
  written : (k : ℕ) → k < l.index → get_or l.out k 0 ≡ l.start + k;
}
