use Rattle.std.proofs.Common.{◌≡◌, ◌+◌, ◌*◌, ◌<◌, ◌≤◌, ℕ, [], get_or, length}
use Rattle.bitpack_sets.specs.Chunks.{first_key, ids_from, positions}
use Rattle.bitpack_queries.specs.Folds.{found, joined}
use Rattle.bitpack_slices.specs.Reads.{has}
use Rattle.bitpack_queries.proofs.folding.add_chunks.Given as goal

abbrev pub invariant-loop-k : goal.invariant-loop-k
invariant-loop-k l = record {
  within : l.position ≤ positions l.chunks;
  least : l.base + l.k ≤ first_key (ids_from l.chunks l.position);
  ids : (x : ℕ) → (l.base + l.k) * 65536 ≤ x → has x (ids_from l.chunks 0) ≡ has x (ids_from l.chunks l.position);
  highs_long : length l.highs ≡ 8;
  words_long : length l.words ≡ 8;
  done : (i : ℕ) → i < 65536 * l.k → found l.highs l.words i ≡ joined l.takes l.operation (found l.fn.highs l.fn.words i) (has (l.base * 65536 + i) (ids_from l.chunks 0));
  highs_rest : (j : ℕ) → l.k ≤ j → get_or l.highs j [] ≡ get_or l.fn.highs j [];
  words_rest : (j : ℕ) → l.k ≤ j → get_or l.words j [] ≡ get_or l.fn.words j [];
}
