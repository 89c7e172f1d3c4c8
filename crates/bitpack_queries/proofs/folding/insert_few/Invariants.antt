use Rattle.std.proofs.Common.{◌≡◌, ◌+◌, ◌*◌, ◌/◌, ◌<◌, ◌||◌, ℕ, length, take}
use Rattle.bitpack_queries.specs.Folds.{found}
use Rattle.bitpack_slices.specs.Reads.{has}
use Rattle.std.specs.List.{All}
use Rattle.bitpack_queries.proofs.folding.insert_few.Given as goal

abbrev pub invariant-loop-i : goal.invariant-loop-i
invariant-loop-i l = record {
  highs_long : length l.highs ≡ 8;
  words_long : length l.words ≡ 8;
  done : (i : ℕ) → i < 524288 → found l.highs l.words i ≡ (found l.fn.highs l.fn.words i || has (l.base * 65536 + i) (take l.i l.ids));
  before : All (λ x. x / 65536 < l.base + 8) (take l.i l.ids);
}
