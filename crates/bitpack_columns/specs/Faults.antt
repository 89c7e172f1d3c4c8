-- The first fault of bytes as an encoded column.
use Rattle.std.specs.Prelude.{ℕ, zero, suc, ◌+◌, ◌/◌, ◌%◌, Bool, false, ◌&&◌, ◌||◌, ◌==◌, not, nat_lt, nat_le, if◌then◌else◌, List, [], ◌∷◌, length, drop, slice_index, Option, Some, None}
use Rattle.std.specs.Option.{option_map, option_or}
use Rattle.bitpack_columns.specs.declared.column_kind.ColumnKind.{ColumnKind}
use Rattle.bitpack_columns.specs.declared.column_kind.ColumnKind.TheVariants.{Plain, Sorted}
use Rattle.bitpack_columns.specs.declared.column_error.ColumnError.{ColumnError}
use Rattle.bitpack_columns.specs.declared.column_error.ColumnError.TheVariants.{Short, BadVersion, LooseWidth, BadOffset, BadLast, NotSorted, Trailing, BadSizes}
use Rattle.bitpack_columns.specs.Columns.{least, mark_of}
use Rattle.bitpack_columns.specs.Numbers.{are_loose, byte_count, count_fault, greatest, groups_fault, groups_of, number_fault, number_value, of}
use Rattle.bitpack_columns.specs.Reads.{after_tail, begin_at, block_values, bodies_start, coded, codes_at, column_values, end_at, end_size, groups_at, mark_at, mark_size, tail_at, tail_start, tail_values, width_at}
use Rattle.bitpack_columns.specs.Stated.{after_count, count_in, first_in, has_first, is_few, kind_in, rest_in}

-- bytes are missing before an end
abbrev pub short_of : ℕ → List ℕ → Option ColumnError
short_of end bytes = if nat_lt (length bytes) end then Some Short else None

-- of the first block that has one
unfoldable pub first_of : (ℕ → Option ColumnError) → ℕ → Option ColumnError
first_of fault zero = None
first_of fault (suc count) = option_or (first_of fault count) (fault count)

-- the first position whose value is below the one before; the first of the values has this position, and this one is before it
unfoldable pub first_below : ℕ → ℕ → List ℕ → Option ℕ
first_below position before [] = None
first_below position before (x ∷ xs) = if nat_lt x before then Some position else first_below (position + 1) x xs

-- the first position that is out of order in a column of this kind, whose first value is stated
unfoldable pub first_out : ColumnKind → ℕ → List ℕ → Option ℕ
first_out Plain first values = None
first_out Sorted first [] = None
first_out Sorted first (x ∷ xs) = if x == first then first_below 1 x xs else Some 0

-- a tail of `count` values has its least value
abbrev pub has_least : ColumnKind → ℕ → Bool
has_least Plain count = nat_lt 0 count
has_least Sorted count = false

-- ---- what is after the count and the first value

-- of the byte of the sizes: it is not there, or says a count of bytes that is not from 1 to 4
unfoldable pub sizes_fault : List ℕ → Option ColumnError
sizes_fault rest =
    if nat_lt (length rest) 1 then Some Short
    else if nat_lt 0 (end_size rest) && nat_le (end_size rest) 4 && nat_lt 0 (mark_size rest) && nat_le (mark_size rest) 4 then None
    else Some (BadSizes (slice_index rest 0))

-- of end m
unfoldable pub end_fault : List ℕ → ℕ → Option ColumnError
end_fault rest m = if nat_lt (end_at rest m) (begin_at rest m) || nat_lt 32 (width_at rest m) then Some (BadOffset m) else None

-- of the sizes, which are the least for the last end and the greatest mark
unfoldable pub loose_sizes_fault : ℕ → List ℕ → Option ColumnError
loose_sizes_fault blocks rest =
    if (end_size rest == byte_count (begin_at rest blocks)) && (mark_size rest == byte_count (greatest (mark_at blocks rest) blocks)) then None
    else Some (BadSizes (slice_index rest 0))

module _ (kind : ColumnKind) (first : ℕ) where
  -- of the body of block m
  unfoldable pub body_fault : ℕ → List ℕ → ℕ → Option ColumnError
  body_fault blocks rest m =
      if are_loose (width_at rest m) (codes_at blocks rest m) then Some (LooseWidth m (width_at rest m))
      else if mark_of kind (block_values kind first blocks rest m) == mark_at blocks rest m then None
      else Some (BadLast m)

  -- of `blocks` blocks, one or more
  unfoldable pub blocks_fault : ℕ → List ℕ → Option ColumnError
  blocks_fault blocks rest =
      option_or (sizes_fault rest)
      (option_or (short_of (bodies_start blocks rest) rest)
      (option_or (first_of (end_fault rest) blocks)
      (option_or (loose_sizes_fault blocks rest)
      (option_or (short_of (tail_start blocks rest) rest)
      (first_of (body_fault blocks rest) blocks)))))

  -- of the least value of a tail of `count` values, which a plain column has: it is not there, or is not their least
  unfoldable pub least_number_fault : ℕ → List ℕ → Option ColumnError
  least_number_fault count tail = if has_least kind count then of (number_fault tail) else None

  unfoldable pub least_fault : ℕ → ℕ → List ℕ → Option ColumnError
  least_fault blocks count rest =
      if has_least kind count && not (least (tail_values kind first blocks count rest) == number_value (tail_at blocks rest)) then Some (BadLast blocks) else None

  -- of the tail of a column of `count` values, and of the order of all values
  unfoldable pub tail_fault : ℕ → List ℕ → Option ColumnError
  tail_fault count rest =
      let blocks = count / 128 in
      let left = count % 128 in
      option_or (least_number_fault left (tail_at blocks rest))
      (option_or (of (groups_fault (groups_of (coded kind blocks left)) blocks (coded kind blocks left) (groups_at kind left (tail_at blocks rest))))
      (option_or (least_fault blocks left rest)
      (option_or (option_map NotSorted (first_out kind first (column_values kind first count rest)))
      (if length (after_tail kind blocks left rest) == 0 then None else Some Trailing))))

  unfoldable pub rest_fault : ℕ → List ℕ → Option ColumnError
  rest_fault count rest = option_or (if count / 128 == 0 then None else blocks_fault (count / 128) rest) (tail_fault count rest)

-- ---- any bytes

-- of the count and the first value
unfoldable pub header_fault : List ℕ → Option ColumnError
header_fault bytes =
    option_or (if is_few bytes then None else of (count_fault 31 (drop 1 bytes)))
    (if has_first (kind_in bytes) (count_in bytes) then of (number_fault (after_count bytes)) else None)

unfoldable pub fault : List ℕ → Option ColumnError
fault [] = Some Short
fault (byte ∷ bytes) =
    let all = byte ∷ bytes in
    if nat_lt byte 64 || nat_lt 127 byte then Some (BadVersion byte)
    else option_or (header_fault all) (rest_fault (kind_in all) (first_in all) (count_in all) (rest_in all))
