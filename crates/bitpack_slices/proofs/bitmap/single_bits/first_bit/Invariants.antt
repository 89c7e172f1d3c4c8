use Rattle.std.proofs.Common.{◌-◌, ◌≡◌, ℕ, ◌<◌, ◌≤◌, false}
use Rattle.bitpack_slices.specs.Bitmaps.{has_bit}
use Rattle.bitpack_slices.proofs.bitmap.single_bits.first_bit.Given as goal

abbrev pub invariant-loop-at : goal.invariant-loop-at
invariant-loop-at l = record {
  later : l.from ≤ l.at;
  within : l.at ≤ 256;
  none : (i : ℕ) → l.from ≤ i → i < l.at → has_bit l.words i ≡ false;
}

abbrev pub decreases-loop-at : goal.decreases-loop-at
decreases-loop-at l = 256 - l.at
