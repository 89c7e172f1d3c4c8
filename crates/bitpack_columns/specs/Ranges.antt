-- Values within a range, both ends included: where they are; the first value that is at least another; bounds of a block.
use Rattle.std.specs.Prelude.{◌≡◌, ℕ, ◌+◌, ◌-◌, ◌*◌, ◌^◌, ◌<◌, ◌≤◌, min, Bool, ◌&&◌, nat_le, nat_lt, if◌then◌else◌, List, [], ◌∷◌, length, slice_index, Option, Some, None}
use Rattle.std.specs.List.{filter, range_with_len}
use Rattle.bitpack_columns.specs.declared.column_kind.ColumnKind.{ColumnKind}
use Rattle.bitpack_columns.specs.declared.column_kind.ColumnKind.TheVariants.{Plain, Sorted}
use Rattle.bitpack_columns.specs.Columns.{block_of, least, width_in}

-- a value is within a range
abbrev pub is_between : ℕ → ℕ → ℕ → Bool
is_between low high value = nat_le low value && nat_le value high

-- the positions from one on whose values are within a range, increasing
abbrev pub positions_between : ℕ → ℕ → ℕ → List ℕ → List ℕ
positions_between low high from values =
    filter (λ position. is_between low high (slice_index values position)) (range_with_len from (length values - from))

-- the first value that is at least a target, with its position; the first of the values has this position
unfoldable pub first_from : ℕ → ℕ → List ℕ → Option (ℕ × ℕ)
first_from target position [] = None
first_from target position (x ∷ xs) = if nat_lt x target then first_from target (position + 1) xs else Some (position, x)

-- bounds of the values of a block: in a plain column the least value, and this plus the greatest number of the block's width; in a sorted one
-- the value before the block, of the first block the first value since 0 - 1 is 0, and the last value of the block
pub record AreBounds (kind : ColumnKind) (values : List ℕ) (block first second : ℕ) : Type 0 where
  pub low : (k : ℕ) → k < 128 → first ≤ slice_index values (128 * block + k)
  pub high : (k : ℕ) → k < 128 → slice_index values (128 * block + k) ≤ second
  pub least_is : kind ≡ Plain → first ≡ least (block_of block values)
  pub greatest_is : kind ≡ Plain → second ≡ min (2 ^ 32 - 1) (first + (2 ^ width_in kind values block - 1))
  pub before_is : kind ≡ Sorted → first ≡ slice_index values (128 * block - 1)
  pub last_is : kind ≡ Sorted → second ≡ slice_index values (128 * block + 127)

-- the values at positions, each the one at the same index
pub record HasAll (values positions out : List ℕ) : Type 0 where
  pub within : length positions ≤ length out
  pub each : (k : ℕ) → k < length positions → slice_index out k ≡ slice_index values (slice_index positions k)

-- the first position from the start of the list that has no value
pub record IsFirstBeyond (values positions : List ℕ) (index : ℕ) : Type 0 where
  pub here : index < length positions
  pub beyond : length values ≤ slice_index positions index
  pub before : (k : ℕ) → k < index → slice_index positions k < length values
