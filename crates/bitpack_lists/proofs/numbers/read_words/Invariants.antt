-- The words so far are read.
use Rattle.std.proofs.Common.{◌≡◌, ◌<◌, ℕ, length, get_or}
use Rattle.bitpacking.specs.Words.{word}
use Rattle.bitpack_lists.proofs.numbers.read_words.Given as goal

abbrev pub invariant-loop-index : goal.invariant-loop-index
invariant-loop-index l = record {
  long : length l.values ≡ length l.initial.values;
  values : (k : ℕ) → k < l.index → get_or l.values k 0 ≡ word l.bytes k;
}
