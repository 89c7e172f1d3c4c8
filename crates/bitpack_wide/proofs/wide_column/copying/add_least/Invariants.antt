-- The values so far are written, and the next id is the first from the next position on.
use Rattle.std.proofs.Common.{◌≡◌, ◌+◌, ◌<◌, ◌≤◌, ℕ, cond, get_or, length}
use Rattle.bitpack_slices.specs.Reads.{has, rank}
use Rattle.bitpack_sets.specs.Opened.{ids}
use Rattle.bitpack_wide.proofs.wide_column.copying.add_least.Given as goal

abbrev pub invariant-loop-index : goal.invariant-loop-index
invariant-loop-index l = record {
  long : length l.out ≡ length l.fn.out;
  passed : l.first + l.next ≡ rank (l.from + l.index) (ids l.missing);
  few : l.next ≤ l.index;
  written : (k : ℕ) → k < l.index → get_or l.out k 0 ≡ cond (has (l.from + k) (ids l.missing)) l.fill (l.least + get_or l.fn.out k 0);
  left : (k : ℕ) → l.index ≤ k → get_or l.out k 0 ≡ get_or l.fn.out k 0;
}
