-- What the call on many positions of a column returns.
use Rattle.std.specs.Prelude.{◌≡◌, ℕ, ◌<◌, ◌≤◌, ℤ, pos, negsuc, List, length, drop, slice_get, slice_index, Some}
use Rattle.bitpack_columns.specs.Gathering.{AreWithin}

-- these numbers begin with the value at each position
abbrev pub HasAll : List ℕ → List ℕ → List ℕ → Type 0
HasAll values positions out = (k : ℕ) → k < length positions → slice_get values (slice_index positions k) ≡ Some (slice_index out k)

-- the value at each position was written to the same index; or there is no room for them, or a position is not in the column, and then
-- nothing was written
pub record Gathers (all positions before after : List ℕ) (answer : ℤ) : Type 0 where
  pub short : length before < length positions → (answer ≡ negsuc 2) × (after ≡ before)
  pub beyond : length positions ≤ length before → (k : ℕ) → k < length positions → length all ≤ slice_index positions k
      → (answer ≡ negsuc 4) × (after ≡ before)
  pub gathered : length positions ≤ length before → AreWithin (length all) positions
      → (answer ≡ pos (length positions)) × HasAll all positions after × (drop (length positions) after ≡ drop (length positions) before)
