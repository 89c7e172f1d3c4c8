-- What searches in a column find, and what the bounds of a block decide of a range of values, both ends included.
use Rattle.std.specs.Prelude.{◌≡◌, ℕ, ◌+◌, ◌-◌, ◌*◌, ◌^◌, ◌<◌, ◌≤◌, Bool, true, false, ◌&&◌, ◌||◌, nat_lt, nat_le, if◌then◌else◌, min, ◌==◌, List, length, map, take, drop, slice_index, Option, Some, None}
use Rattle.std.specs.Int.{bit_at}
use Rattle.std.specs.List.{filter, range_with_len}
use Rattle.bitpack_columns.specs.declared.column.Column.{Column}
use Rattle.bitpack_columns.specs.declared.column_kind.ColumnKind.TheVariants.{Plain}
use Rattle.bitpack_columns.specs.Columns.{block_of, mark_of, width_in}
use Rattle.bitpack_columns.specs.Opened.{values}
use Rattle.bitpack_columns.specs.Ranges.{is_between, positions_between}

-- the values before a position are below a target, and the others are not
pub record IsLowerBound (values : List ℕ) (target position : ℕ) : Type 0 where
  pub within : position ≤ length values
  pub below : (k : ℕ) → k < position → slice_index values k < target
  pub others : (k : ℕ) → position ≤ k → k < length values → target ≤ slice_index values k

-- of the values, `count` from one on, the positions of those within a range
abbrev pub positions_in_range : ℕ → ℕ → ℕ → ℕ → List ℕ → List ℕ
positions_in_range low high from count values = filter (λ position. is_between low high (slice_index values position)) (range_with_len from count)

-- the positions from one on are written at the start of a slice, as many as fit, and the rest of the slice is unchanged
pub record FindsPositions (low high from : ℕ) (values : List ℕ) (result : ℕ) (old new : List ℕ) : Type 0 where
  pub count : result ≡ min (length old) (length (positions_between low high from values))
  pub positions : take result new ≡ take result (positions_between low high from values)
  pub rest : drop result new ≡ drop result old

-- the positions of the first values that are within a range are at the start of a slice; the first value has the position `start`
pub record HasFound (low high : ℕ) (values : List ℕ) (start count next : ℕ) (found : List ℕ) : Type 0 where
  pub few : next ≤ count
  pub positions : take next found ≡ map (λ index. start + index) (positions_in_range low high 0 count values)

-- the bits of a byte that are 1, the lowest first
unfoldable pub ones_in : ℕ → List ℕ
ones_in byte = filter (λ bit. bit_at byte bit == 1) (range_with_len 0 8)

-- ---- bounds

-- the least value of a block of a plain column, and the greatest that its width allows
abbrev pub least_in : Column → ℕ → ℕ
least_in column block = mark_of Plain (block_of block (values column))

abbrev pub greatest_in : Column → ℕ → ℕ
greatest_in column block = min (2 ^ 32 - 1) (least_in column block + (2 ^ width_in Plain (values column) block - 1))

-- each value of a block is within a range, or if the answer is false none is
abbrev pub AreWithin : Bool → ℕ → ℕ → ℕ → List ℕ → Type 0
AreWithin answer low high block values = (k : ℕ) → k < 128 → is_between low high (slice_index values (128 * block + k)) ≡ answer

-- what bounds decide: that no value is within a range, that all are, or neither
abbrev pub decided : ℕ → ℕ → ℕ → ℕ → Option Bool
decided low high least greatest =
    if nat_lt greatest low || nat_lt high least then Some false
    else if nat_le low least && nat_le greatest high then Some true
    else None
