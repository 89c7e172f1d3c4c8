-- The slices of the high bytes so far are loaded.
use Rattle.std.proofs.Common.{◌≡◌, ◌/◌, ◌<◌, ℕ, length, take, true}
use Rattle.bitpack_slices.proofs.blocks.loading.load_blocks.Given as goal
use Rattle.bitpack_slices.specs.Bitmaps.{has_bit}
use Rattle.bitpack_slices.specs.Reads.{has}
use Rattle.bitpack_slices.specs.Slices.{block_numbers}

abbrev pub invariant-loop-high : goal.invariant-loop-high
invariant-loop-high l = record {
  size : length l.words ≡ 1024;
  loaded : (x : ℕ) → x < 65536 → has (x / 256) (take l.high-index l.highs) ≡ true → has_bit l.words x ≡ has x (block_numbers l.body);
}
