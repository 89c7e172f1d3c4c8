-- What opening a wide column finds, and what reading one relies on.
use Rattle.std.specs.Prelude.{◌≡◌, ℕ, ◌+◌, ◌*◌, ◌^◌, ◌<◌, ◌≤◌, List, [], length, slice_index, Option, Some, None}
use Rattle.bitpack_sets.specs.Directory.{before}
use Rattle.bitpack_columns.specs.Opened.{values}
use Rattle.bitpack_columns.specs.declared.column.Column.{Column}
use Rattle.bitpack_wide.specs.WideColumnFaults.{fault}
use Rattle.bitpack_wide.specs.WideColumnReads.{bound_size, count_in, end_at, end_size, parts_end, parts_start, rest_in}

-- there is room for the bounds and the ends of `chunks` chunks
pub record HasEntries (chunks : ℕ) (rest : List ℕ) : Type 0 where
  pub end_some : 1 ≤ end_size rest
  pub end_few : end_size rest ≤ 4
  pub bound_some : 1 ≤ bound_size rest
  pub bound_few : bound_size rest ≤ 8
  pub room : parts_start chunks rest ≤ length rest

-- there is room for the parts
pub record HasParts (chunks : ℕ) (rest : List ℕ) : Type 0 where
  pub tables : HasEntries chunks rest
  pub rising : (j : ℕ) → j < 2 * chunks + 1 → before (end_at chunks rest) j ≤ end_at chunks rest j
  pub whole : length rest ≡ parts_end chunks rest

-- the bytes have no fault, and these are their count of values, and what is after it
pub record States (bytes : List ℕ) (count : ℕ) (rest : List ℕ) : Type 0 where
  pub none : fault bytes ≡ None
  pub few : count ≤ 2 ^ 28
  pub count_is : count ≡ count_in bytes
  pub rest_is : rest ≡ rest_in bytes

-- the numbers of a column that may not be there
abbrev pub values_of : Option Column → List ℕ
values_of None = []
values_of (Some column) = values column

-- the difference at a position of a chunk with these two columns
abbrev pub difference_in : Column → Option Column → ℕ → ℕ
difference_in low high k = slice_index (values low) k + 2 ^ 32 * slice_index (values_of high) k

-- a column, if it is there, has a value for each position
abbrev pub HasLen : ℕ → Option Column → Type 0
HasLen len high = (column : Column) → high ≡ Some column → length (values column) ≡ len

-- the slice has the numbers from one on
abbrev pub IsPart : (ℕ → ℕ) → ℕ → List ℕ → Type 0
IsPart number from part = (k : ℕ) → k < length part → slice_index part k ≡ number (from + k)
