-- The bits so far are set.
use Rattle.std.proofs.Common.{◌≡◌, ◌||◌, ◌&&◌, ◌-◌, ◌≤◌, ℕ, leb, length, ltb}
use Rattle.bitpack_slices.proofs.bitmap.ranges.set_range.Given as goal
use Rattle.bitpack_slices.specs.Bitmaps.{has_bit}

abbrev pub invariant-loop-at : goal.invariant-loop-at
invariant-loop-at l = record {
  size : length l.words ≡ length l.fn.words;
  from_on : l.from ≤ l.at;
  within : l.at ≤ l.to;
  bits : (i : ℕ) → has_bit l.words i ≡ ((leb l.from i && ltb i l.at) || has_bit l.fn.words i);
}

abbrev pub decreases-loop-at : goal.decreases-loop-at
decreases-loop-at l = l.to - l.at
