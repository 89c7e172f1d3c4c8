-- What is known while the chunks of a wide column are tested.
use Rattle.std.specs.Prelude.{◌≡◌, ℕ, min, max, ◌+◌, ◌-◌, ◌*◌, ◌<◌, Bool, false, true, ◌&&◌, ◌||◌, ◌==◌, not, nat_lt, List, length, slice_index, Option, Some, None}
use Rattle.bitpack_groups.specs.Numbers.{greatest}
use Rattle.bitpack_columns.specs.Opened.{encoding_of, kind_of, values}
use Rattle.bitpack_columns.specs.declared.column.Column.{Column}
use Rattle.bitpack_wide.specs.declared.wide_column.chunk.Chunk.{Chunk}
use Rattle.bitpack_wide.specs.WideColumnFaults.{each_below, has_bounds, has_kind, is_filled, is_front, rise}
use Rattle.bitpack_wide.specs.WideColumnReads.{greatest_at, is_high, least_at, len_at, part_at}
use Rattle.bitpack_wide.specs.WideColumnSound.{difference_in}
use Rattle.bitpack_wide.specs.WideColumns.{chunks_of}

-- whether there is a 0 among the first `count` numbers, and the greatest of them
pub record Sees (number : ℕ → ℕ) (count : ℕ) (zero : Bool) (most : ℕ) : Type 0 where
  pub zero_is : zero ≡ not (each_below (λ k. nat_lt 0 (number k)) count)
  pub most_is : most ≡ greatest number count

-- and whether they rise, and the last one
pub record SeesRise (number : ℕ → ℕ) (count : ℕ) (rises : Bool) (last : ℕ) : Type 0 where
  pub rises_is : rises ≡ rise number count
  pub last_is : 0 < count → last ≡ number (count - 1)

-- this is the number before one of them, if there is one
abbrev pub IsLast : (ℕ → ℕ) → ℕ → Option ℕ → Type 0
IsLast number from None = from ≡ 0
IsLast number from (Some last) = (0 < from) × (last ≡ number (from - 1))

-- what position k of a chunk must have if it has no value, and if it is the first that has one
abbrev pub is_as_before : (ℕ → Bool) → (ℕ → ℕ) → ℕ → Bool
is_as_before missing difference k = not (missing k) || (difference k == difference (k - 1))

abbrev pub is_first_same : (ℕ → Bool) → (ℕ → ℕ) → ℕ → Bool
is_first_same missing difference k = not (is_front missing k && not (missing k)) || (difference k == difference (k - 1))

-- the difference at a position of a chunk
abbrev pub difference_of : Chunk → ℕ → ℕ
difference_of chunk = difference_in chunk.low chunk.high

-- a column has its kind, if it is there
abbrev pub column_has_kind : Column → Bool
column_has_kind column = has_kind (kind_of column) (slice_index (values column)) (length (values column))

abbrev pub high_has_kind : Option Column → Bool
high_has_kind None = true
high_has_kind (Some column) = column_has_kind column

-- a chunk has the only form of its values; `missing` says of each position whether it has none
unfoldable pub is_right : Chunk → (ℕ → Bool) → Bool
is_right chunk missing =
    column_has_kind chunk.low && (high_has_kind chunk.high
    && (has_bounds chunk.least chunk.greatest missing (difference_of chunk) chunk.len && each_below (is_filled missing (difference_of chunk)) chunk.len))

-- this is chunk m, opened
pub record IsChunk (count : ℕ) (rest : List ℕ) (m : ℕ) (chunk : Chunk) : Type 0 where
  pub least_is : chunk.least ≡ least_at rest m
  pub greatest_is : chunk.greatest ≡ greatest_at rest m
  pub len_is : chunk.len ≡ len_at count m
  pub low_is : encoding_of chunk.low ≡ part_at (chunks_of count) rest (2 * m + 1)
  pub high_is : is_high rest m ≡ true → (high : Column) × (chunk.high ≡ Some high) × (encoding_of high ≡ part_at (chunks_of count) rest (2 * m + 2))
  pub none_is : is_high rest m ≡ false → chunk.high ≡ None

-- the number of id j, counted from one on, is the one before it; the numbers begin at a position
abbrev pub same_at : (ℕ → ℕ) → ℕ → List ℕ → ℕ → ℕ → Bool
same_at number begin ids first j =
    let k = slice_index ids (first + j) - begin in
    number k == number (k - 1)

-- the bounds of numbers with these bounds together
abbrev pub join_bounds : Option (ℕ × ℕ) → Option (ℕ × ℕ) → Option (ℕ × ℕ)
join_bounds None b = b
join_bounds (Some a) None = Some a
join_bounds (Some a) (Some b) = Some (min a.0 b.0, max a.1 b.1)
