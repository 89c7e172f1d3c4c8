-- The values so far that are below the target are in front.
use Rattle.std.proofs.Common.{◌<◌, ◌≤◌, ℕ, get_or}
use Rattle.bitpack_columns.proofs.column.search.count_below.Given as goal

abbrev pub invariant-loop-index : goal.invariant-loop-index
invariant-loop-index l = record {
  few : l.below ≤ l.index;
  before : (k : ℕ) → k < l.below → get_or l.values k 0 < l.word;
  enough : l.below < l.index → l.word ≤ get_or l.values l.below 0;
}
