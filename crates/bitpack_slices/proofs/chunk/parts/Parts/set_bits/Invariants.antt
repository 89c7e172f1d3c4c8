-- The bits of the numbers of the slices so far are set.
use Rattle.std.proofs.Common.{◌≡◌, ◌/◌, ◌<◌, ◌&&◌, ℕ, length, take}
use Rattle.bitpack_slices.proofs.chunk.parts.Parts.set_bits.Given as goal
use Rattle.bitpack_slices.specs.Bitmaps.{has_bit}
use Rattle.bitpack_slices.specs.Parts.{numbers_in_parts}
use Rattle.bitpack_slices.specs.Reads.{has}
use Rattle.bitpack_slices.specs.Slices.{slice_numbers, slices_len}

abbrev pub invariant-loop-i : goal.invariant-loop-i
invariant-loop-i l = record {
  size : length l.words ≡ 1024;
  start : l.offset ≡ slices_len (take l.i l.self.counts.now);
  bits : (x : ℕ) → x < 65536 → has_bit l.words x ≡ (has (x / 256) (take l.i (slice_numbers (length l.self.counts.now) l.self.highs.now)) && has x (numbers_in_parts l.self));
}
