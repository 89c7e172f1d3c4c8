-- The high bytes of the integers so far.
use Rattle.std.proofs.Common.{◌≡◌, ◌<◌, ℕ, length, take}
use Rattle.bitpack_slices.proofs.bitmap.loading.integer_highs.Given as goal
use Rattle.bitpack_slices.specs.Bitmaps.{has_bit, has_high}
use Rattle.bitpack_slices.specs.Slices.{lows_of}

abbrev pub invariant-loop-i : goal.invariant-loop-i
invariant-loop-i l = record {
  size : length l.highs ≡ 4;
  found : (h : ℕ) → h < 256 → has_bit l.highs h ≡ has_high h (take l.i (lows_of l.size l.bytes));
}
