-- What is measured of values that follow others in a column before they are written, and what is written of them.
use Rattle.std.specs.Prelude.{◌≡◌, ℕ, suc, ◌+◌, ◌-◌, ◌*◌, ◌/◌, ◌<◌, ◌==◌, if◌then◌else◌, List, ◌++◌, drop, length, slice_index, take, Option, None}
use Rattle.std.specs.List.{flat_map, range_with_len}
use Rattle.bitpack_columns.specs.declared.column.Column.{Column}
use Rattle.bitpack_columns.specs.declared.column_kind.ColumnKind.{ColumnKind}
use Rattle.bitpack_columns.specs.declared.column_kind.ColumnKind.TheVariants.{Plain, Sorted}
use Rattle.bitpack_columns.specs.Columns.{base_of, block_of, codes, encoding, header_encoding, least, least_encoding, left_out, mark_in, packed_block, sum_to, tail_encoding}
use Rattle.bitpack_columns.specs.Faults.{first_below, first_out}
use Rattle.bitpack_columns.specs.Numbers.{greatest, groups_of}
use Rattle.bitpack_columns.specs.Opened.{blocks_of, kind_of, values}
use Rattle.bitpack_groups.specs.Packed.{groups, le_bytes, least_width}

-- what the codes of a block or a tail count from: its least value, or if the column is sorted the value before it
abbrev pub base_after : ColumnKind → ℕ → ℕ → ℕ
base_after Plain before least = least
base_after Sorted before least = before

-- the first position out of order among values that follow `before`; the first of them has a position
abbrev pub first_fall : ColumnKind → ℕ → ℕ → List ℕ → Option ℕ
first_fall Plain position before values = None
first_fall Sorted position before values = first_below position before values

module _ (kind : ColumnKind) (before : ℕ) (values : List ℕ) where
  -- the codes of block m of values that follow `before`, and their width
  abbrev pub codes_after : ℕ → List ℕ
  codes_after m = codes kind (base_of kind before (mark_in kind values) m) (block_of m values)

  abbrev pub width_after : ℕ → ℕ
  width_after m = least_width (codes_after m)

  -- the ends of their blocks from a start on, their marks, and their bodies
  unfoldable pub ends_encoding : ℕ → ℕ → List ℕ
  ends_encoding size start = flat_map (λ m. le_bytes size (start + sum_to width_after (suc m))) (range_with_len 0 (length values / 128))

  unfoldable pub marks_encoding : ℕ → List ℕ
  marks_encoding size = flat_map (λ m. le_bytes size (mark_in kind values m)) (range_with_len 0 (length values / 128))

  unfoldable pub bodies_encoding : List ℕ
  bodies_encoding = flat_map (λ m. packed_block (width_after m) (codes_after m)) (range_with_len 0 (length values / 128))

-- the sum of the widths of the whole blocks, their greatest mark, and if the column is sorted the value before what follows them
pub record IsMeasured (kind : ColumnKind) (before : ℕ) (values : List ℕ) (total most last : ℕ) : Type 0 where
  pub total_is : total ≡ sum_to (width_after kind before values) (length values / 128)
  pub most_is : most ≡ greatest (mark_in kind values) (length values / 128)
  pub last_is : kind ≡ Sorted → last ≡ base_of Sorted before (mark_in Sorted values) (length values / 128)

-- the widths of the first blocks, as many as there is room for
pub record AreWidths (kind : ColumnKind) (before : ℕ) (values widths : List ℕ) : Type 0 where
  pub each : (m : ℕ) → m < length values / 128 → m < length widths → slice_index widths m ≡ width_after kind before values m

-- no value of a sorted column falls within its whole blocks
pub record Rises (kind : ColumnKind) (before : ℕ) (values : List ℕ) : Type 0 where
  pub none : first_fall kind 0 before (take (128 * (length values / 128)) values) ≡ None

-- the values of a column so far, how many they are, and if the column is sorted the last of them
pub record Follows (kind : ColumnKind) (values : List ℕ) (count last : ℕ) : Type 0 where
  pub count_is : length values ≡ count
  pub right : first_out kind (slice_index values 0) values ≡ None
  pub none : kind ≡ Sorted → length values ≡ 0 → last ≡ 0
  pub some : kind ≡ Sorted → 0 < length values → last ≡ slice_index values (length values - 1)

-- the bytes of a tail that follows `before` and this many blocks
unfoldable pub tail_after : ColumnKind → ℕ → ℕ → List ℕ → List ℕ
tail_after kind blocks before tail =
    let coded = drop (left_out kind blocks (length tail)) (codes kind (base_after kind before (least tail)) tail) in
    least_encoding kind tail ++ groups (groups_of (length coded)) coded

-- a column is measured, and its header and its tail are written; of the values that are packed, which follow `before`, widths are cached
pub record IsPlanned (kind : ColumnKind) (values : List ℕ) (before : ℕ) (packed : List ℕ) (len total most last : ℕ) (widths header tail : List ℕ) : Type 0 where
  pub len_is : len ≡ length (encoding kind values)
  pub header_is : header ≡ header_encoding kind values
  pub tail_is : tail ≡ tail_encoding kind values
  pub measured : IsMeasured kind (slice_index values 0) values total most last
  pub widths_are : AreWidths kind before packed widths

-- ---- more values after a column

-- the first value of a column
abbrev pub first_value : Column → ℕ
first_value column = slice_index (values column) 0

-- the values of its whole blocks, and packed values after them
abbrev pub extended : Column → List ℕ → List ℕ
extended column packed = take (128 * blocks_of column) (values column) ++ packed

-- what packed values of a sorted column follow: the last value of the blocks, or if there is no block the first of these values
abbrev pub packed_after : Column → List ℕ → ℕ
packed_after column packed = if blocks_of column == 0 then slice_index packed 0 else mark_in (kind_of column) (values column) (blocks_of column - 1)
