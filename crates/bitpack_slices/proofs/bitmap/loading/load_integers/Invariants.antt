-- The low halves of the integers so far.
use Rattle.std.proofs.Common.{◌≡◌, ◌/◌, ◌<◌, ℕ, length, take, true}
use Rattle.bitpack_slices.proofs.bitmap.loading.load_integers.Given as goal
use Rattle.bitpack_slices.specs.Bitmaps.{has_bit}
use Rattle.bitpack_slices.specs.Slices.{lows_of}
use Rattle.bitpack_slices.specs.Reads.{has}

abbrev pub invariant-loop-i : goal.invariant-loop-i
invariant-loop-i l = record {
  size : length l.words ≡ 1024;
  loaded : (x : ℕ) → x < 65536 → has (x / 256) l.highs ≡ true → has_bit l.words x ≡ has x (take l.i (lows_of l.size l.bytes));
}
