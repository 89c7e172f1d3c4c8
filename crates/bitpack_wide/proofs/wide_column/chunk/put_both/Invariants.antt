-- The numbers so far were written.
use Rattle.std.proofs.Common.{◌≡◌, ◌+◌, ◌*◌, ◌^◌, ◌<◌, ℕ, get_or, length}
use Rattle.bitpack_wide.proofs.wide_column.chunk.put_both.Given as goal

abbrev pub invariant-loop-index : goal.invariant-loop-index
invariant-loop-index l = record {
  long : length l.out ≡ length l.fn.out;
  written : (k : ℕ) → k < l.index → get_or l.out k 0 ≡ get_or l.low k 0 + 2 ^ 32 * get_or l.high k 0;
}
