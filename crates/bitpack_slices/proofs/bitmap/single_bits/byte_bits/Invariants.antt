-- The bits of the last bytes and of those so far are 1.
use Rattle.std.proofs.Common.{◌≡◌, ◌*◌, ◌<◌, ◌||◌, ℕ, drop, take}
use Rattle.bitpack_slices.proofs.bitmap.single_bits.byte_bits.Given as goal
use Rattle.bitpack_slices.specs.Bitmaps.{has_bit}
use Rattle.bitpack_slices.specs.Reads.{has}

abbrev pub invariant-loop-step : goal.invariant-loop-step
invariant-loop-step l = (i : ℕ) → i < 256 → has_bit l.bits i ≡ (has i (take (4 * l.step) l.bytes) || has i (drop (4 * l.full) l.bytes))
