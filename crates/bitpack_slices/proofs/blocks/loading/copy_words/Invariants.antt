-- The slices so far are copied.
use Rattle.std.proofs.Common.{◌≡◌, ◌+◌, ◌*◌, ◌<◌, ℕ, drop, length, take}
use Rattle.bitpack_slices.proofs.blocks.loading.copy_words.Given as goal
use Rattle.bitpack_slices.specs.Bitmaps.{has_bit}
use Rattle.bitpack_slices.specs.Reads.{has}
use Rattle.bitpack_slices.specs.Slices.{number_of, ones_from}

abbrev pub invariant-loop-i : goal.invariant-loop-i
invariant-loop-i l = record {
  size : length l.words ≡ 1024;
  copied : (high i : ℕ) → high < l.i → i < 256 → has_bit l.words (256 * high + i) ≡ has i (ones_from (number_of (take 32 (drop (32 * high) l.bytes))) 0 256);
}
