-- What calls of a column may read: how many marks, and how many blocks they may unpack.
use Rattle.std.specs.Prelude.{◌≡◌, ℕ, ◌+◌, ◌-◌, ◌*◌, ◌/◌, ◌^◌, ◌<◌, ◌≤◌, Bool, not, ◌||◌, ◌==◌, nat_le, is_none, List, length, slice_index}
use Rattle.std.specs.List.{filter, range_with_len}
use Rattle.bitpack_columns.specs.declared.column.Column.{Column}
use Rattle.bitpack_columns.specs.declared.column_kind.ColumnKind.TheVariants.{Plain, Sorted}
use Rattle.bitpack_columns.specs.declared.reads.Reads.{Reads}
use Rattle.bitpack_columns.specs.Opened.{blocks_of, kind_of}
use Rattle.bitpack_columns.specs.Searches.{decided, greatest_in, least_in}

-- at most this many marks were read, and nothing was unpacked
pub record ReadsMarks (most : ℕ) (old new : Reads) : Type 0 where
  pub marks : new.marks ≤ old.marks + most
  pub blocks : new.blocks ≡ old.blocks

-- one block more was unpacked
pub record UnpacksBlock (old new : Reads) : Type 0 where
  pub marks : new.marks ≡ old.marks
  pub blocks : new.blocks ≡ old.blocks + 1

-- each search read at most as many marks as the number of blocks has binary digits, and unpacked at most one block
pub record ReadsSearches (searches : ℕ) (column : Column) (old new : Reads) : Type 0 where
  pub marks : (digits : ℕ) → blocks_of column < 2 ^ digits → new.marks ≤ old.marks + searches * digits
  pub blocks : new.blocks ≤ old.blocks + searches

-- the bounds of a block of a plain column do not tell of its values, or it is the tail, which has none
abbrev pub is_undecided : Column → ℕ → ℕ → ℕ → Bool
is_undecided column low high block = nat_le (blocks_of column) block || is_none (decided low high (least_in column block) (greatest_in column block))

-- of the `count` blocks from one on at most those that are untold were unpacked
abbrev pub UnpacksUntold : Column → ℕ → ℕ → ℕ → ℕ → Reads → Reads → Type 0
UnpacksUntold column low high first count old new =
    new.blocks ≤ old.blocks + length (filter (is_undecided column low high) (range_with_len first count))

-- a range from a block on: two searches in a sorted column, and the untold blocks of a plain one
pub record ReadsRange (column : Column) (low high first : ℕ) (old new : Reads) : Type 0 where
  pub sorted : kind_of column ≡ Sorted → ReadsSearches 2 column old new
  pub plain : kind_of column ≡ Plain → UnpacksUntold column low high first (blocks_of column + 1 - first) old new

-- how many runs of positions in the same block there are: one begins with the first position, and with each in another block than the one before
abbrev pub begins_run : List ℕ → ℕ → Bool
begins_run positions k = (k == 0) || not (slice_index positions k / 128 == slice_index positions (k - 1) / 128)

abbrev pub runs : List ℕ → ℕ
runs positions = length (filter (begins_run positions) (range_with_len 0 (length positions)))
