-- The numbers of the high bytes that are left come next.
use Rattle.std.proofs.Common.{◌≡◌, ◌+◌, ◌++◌, drop, length, map, take}
use Rattle.bitpack_slices.proofs.lemmas.bits.UnpackLaws.{by_high}
use Rattle.bitpack_slices.proofs.bitmap.unpacking.unpack_bitmap.Given as goal
use Rattle.bitpack_slices.specs.Bitmaps.{has_bit}

abbrev pub invariant-loop-high : goal.invariant-loop-high
invariant-loop-high l = record {
  count : l.next + length (by_high (has_bit l.words) (drop l.high-index l.highs)) ≡ l.at + length (by_high (has_bit l.words) l.highs);
  values : take l.next l.out ++ map (λ i. l.base + i) (by_high (has_bit l.words) (drop l.high-index l.highs))
      ≡ take l.at l.fn.out ++ map (λ i. l.base + i) (by_high (has_bit l.words) l.highs);
}
