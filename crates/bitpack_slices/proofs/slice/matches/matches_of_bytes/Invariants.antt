-- The bytes that are among the last others and those so far have all bits.
use Rattle.std.proofs.Common.{ℕ, ◌≡◌, ◌*◌, ◌<◌, ◌||◌, cond, drop, get_or, length, take}
use Rattle.bitpack_slices.proofs.slice.matches.matches_of_bytes.Given as goal
use Rattle.bitpack_slices.specs.Reads.{has}

abbrev pub invariant-loop-step : goal.invariant-loop-step
invariant-loop-step l = record {
  length : length l.found ≡ 32;
  bytes : (i : ℕ) → i < 32 → get_or l.found i 0 ≡ cond (has (get_or l.bytes i 0) (take (4 * l.step) l.others) || has (get_or l.bytes i 0) (drop (4 * l.full) l.others)) 255 0;
}
