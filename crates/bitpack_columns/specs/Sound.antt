-- What reading a column relies on: the bytes have no fault, and what they state.
use Rattle.std.specs.Prelude.{◌≡◌, ℕ, ◌<◌, ◌≤◌, List, length, None}
use Rattle.bitpack_columns.specs.declared.column_kind.ColumnKind.{ColumnKind}
use Rattle.bitpack_columns.specs.Columns.{mark_of}
use Rattle.bitpack_columns.specs.Faults.{fault}
use Rattle.bitpack_columns.specs.Reads.{begin_at, block_values, bodies_start, end_at, end_size, mark_at, mark_size, tail_start, width_at}
use Rattle.bitpack_columns.specs.Stated.{count_in, first_in, kind_in, rest_in}

-- the bytes have no fault, and this is their kind, their count of values, the first one of a sorted column, and what is after these
pub record States (bytes : List ℕ) (kind : ColumnKind) (count first : ℕ) (rest : List ℕ) : Type 0 where
  pub none : fault bytes ≡ None
  pub kind_is : kind ≡ kind_in bytes
  pub count_is : count ≡ count_in bytes
  pub first_is : first ≡ first_in bytes
  pub rest_is : rest ≡ rest_in bytes

-- there is room for the ends and the marks of `blocks` blocks
pub record HasEntries (blocks : ℕ) (rest : List ℕ) : Type 0 where
  pub end_some : 1 ≤ end_size rest
  pub end_few : end_size rest ≤ 4
  pub mark_some : 1 ≤ mark_size rest
  pub mark_few : mark_size rest ≤ 4
  pub room : bodies_start blocks rest ≤ length rest

-- the entries and the bodies of `blocks` blocks, one or more
pub record AreBlocks (kind : ColumnKind) (first blocks : ℕ) (rest : List ℕ) : Type 0 where
  pub entries : HasEntries blocks rest
  pub rising : (m : ℕ) → m < blocks → begin_at rest m ≤ end_at rest m
  pub narrow : (m : ℕ) → m < blocks → width_at rest m ≤ 32
  pub room : tail_start blocks rest ≤ length rest
  pub marks : (m : ℕ) → m < blocks → mark_of kind (block_values kind first blocks rest m) ≡ mark_at blocks rest m
