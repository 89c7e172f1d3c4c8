-- The bits of the high bytes so far are clear.
use Rattle.std.proofs.Common.{◌≡◌, ◌/◌, ◌<◌, ℕ, false, length, take, true}
use Rattle.bitpack_slices.proofs.bitmap.loading.clear.Given as goal
use Rattle.bitpack_slices.specs.Bitmaps.{has_bit}
use Rattle.bitpack_slices.specs.Reads.{has}

abbrev pub invariant-loop-high : goal.invariant-loop-high
invariant-loop-high l = record {
  size : length l.words ≡ 1024;
  clear : (x : ℕ) → x < 65536 → has (x / 256) (take l.high-index l.highs) ≡ true → has_bit l.words x ≡ false;
}
