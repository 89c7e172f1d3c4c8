-- The positions so far are below the count.
use Rattle.std.proofs.Common.{◌<◌, ℕ, get_or}
use Rattle.bitpack_columns.proofs.column.getting.first_beyond.Given as goal

abbrev pub invariant-loop-index : goal.invariant-loop-index
invariant-loop-index l = record {
  before : (k : ℕ) → k < l.index → get_or l.positions k 0 < l.count;
}
