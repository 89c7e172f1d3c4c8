-- What the calls on values above a base return.
use Rattle.std.specs.Prelude.{◌≡◌, ℕ, ◌+◌, ◌<◌, ◌≤◌, ℤ, pos, negsuc, List, length, slice_get, slice_index, Option, Some, None}
use Rattle.bitpacking_c.specs.Views.{WritesFound}

-- the greatest base, 2 ^ 64 - 2 ^ 32: no value passes 64 bits with it
abbrev pub most_base : ℕ
most_base = 18446744069414584320

-- each sum is there, in the order of the values
abbrev pub HasSums : ℕ → List ℕ → List ℕ → Type 0
HasSums base values out = (k : ℕ) → k < length values → slice_index out k ≡ base + slice_index values k

-- the numbers from an index on are unchanged
abbrev pub UnchangedFrom : ℕ → List ℕ → List ℕ → Type 0
UnchangedFrom index before after = (k : ℕ) → index ≤ k → slice_index after k ≡ slice_index before k

-- the sums of a base and all values were written and their number is the result; or the base is too great and the result is -7, or there is
-- no room for them and it is -3, and nothing was written
pub record UnpacksSums (base : ℕ) (all before after : List ℕ) (answer : ℤ) : Type 0 where
  pub above : most_base < base → (answer ≡ negsuc 6) × (after ≡ before)
  pub short : base ≤ most_base → length before < length all → (answer ≡ negsuc 2) × (after ≡ before)
  pub sums : base ≤ most_base → length all ≤ length before
      → (answer ≡ pos (length all)) × HasSums base all after × UnchangedFrom (length all) before after

-- the sum of a base and a value, if there is one
abbrev pub sum_with : ℕ → Option ℕ → Option ℕ
sum_with base None = None
sum_with base (Some value) = Some (base + value)

-- the sum of a base and the value at a position is found; or the base is too great, the result is -7 and nothing was written
pub record GetsSum (base : ℕ) (all : List ℕ) (position before after : ℕ) (answer : ℤ) : Type 0 where
  pub above : most_base < base → (answer ≡ negsuc 6) × (after ≡ before)
  pub found : base ≤ most_base → WritesFound (sum_with base (slice_get all position)) before after answer
