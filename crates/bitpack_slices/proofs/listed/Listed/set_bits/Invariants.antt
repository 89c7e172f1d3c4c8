-- The ids so far are set.
use Rattle.std.proofs.Common.{ℕ, ◌≡◌, ◌/◌, false, take}
use Rattle.bitpack_slices.proofs.lemmas.numbers.KeyLaws.{lows_in}
use Rattle.bitpack_slices.proofs.listed.Listed.set_bits.Given as goal
use Rattle.bitpack_slices.specs.Bitmaps.{has_bit}
use Rattle.bitpack_slices.specs.Lists.{listed_ids}
use Rattle.bitpack_slices.specs.Reads.{has}

abbrev pub invariant-loop-position : goal.invariant-loop-position
invariant-loop-position l = record {
  bits : (x : ℕ) → has_bit l.words x ≡ has x (take l.position (lows_in (listed_ids l.self)));
  highs : (x : ℕ) → has_bit l.highs (x / 256) ≡ false → has x (take l.position (lows_in (listed_ids l.self))) ≡ false;
}
