-- The first fault of bytes as an encoded wide column.
use Rattle.std.specs.Prelude.{ℕ, zero, suc, ◌+◌, ◌-◌, ◌*◌, Bool, true, ◌&&◌, ◌||◌, ◌==◌, not, is_none, nat_lt, nat_le, if◌then◌else◌, List, [], ◌∷◌, length, slice_index, Option, Some, None}
use Rattle.std.specs.Option.{option_map, option_or}
use Rattle.bitpack_groups.specs.Numbers.{byte_count, count_fault}
use Rattle.bitpack_groups.specs.Numbers as numbers
use Rattle.bitpack_groups.specs.declared.group_error.GroupError.{GroupError}
use Rattle.bitpack_groups.specs.declared.group_error.GroupError.TheVariants as groups
use Rattle.bitpack_slices.specs.Reads.{rank}
use Rattle.bitpack_sets.specs.Directory.{before}
use Rattle.bitpack_sets.specs.Faults as set_faults
use Rattle.bitpack_columns.specs.Faults as column_faults
use Rattle.bitpack_columns.specs.Stated as column_reads
use Rattle.bitpack_columns.specs.declared.column_kind.ColumnKind.{ColumnKind}
use Rattle.bitpack_columns.specs.declared.column_kind.ColumnKind.TheVariants.{Plain, Sorted}
use Rattle.bitpack_wide.specs.declared.wide_column_error.WideColumnError.{WideColumnError}
use Rattle.bitpack_wide.specs.declared.wide_column_error.WideColumnError.TheVariants.{Short, BadVersion, TooLong, BadOffset, Trailing, BadNumber, BadSizes, BadBody, LooseBody, LooseForm}
use Rattle.bitpack_wide.specs.WideColumns.{chunks_of, wide_byte_count}
use Rattle.bitpack_wide.specs.WideColumnReads.{bound_at, bound_size, count_in, difference_at, end_at, end_size, greatest_at, highs_at, is_high, is_missing, least_at, len_at, lows_at, missing_in, part_at, parts_end, parts_start, rest_in}

-- of the first that has one
unfoldable pub first_of : (ℕ → Option WideColumnError) → ℕ → Option WideColumnError
first_of fault zero = None
first_of fault (suc count) = option_or (first_of fault count) (fault count)

-- each number below a count passes
unfoldable pub each_below : (ℕ → Bool) → ℕ → Bool
each_below test zero = true
each_below test (suc count) = each_below test count && test count

-- none of the first `count` numbers is below the one before it; that before the first is itself, since 0 - 1 is 0
abbrev pub rise : (ℕ → ℕ) → ℕ → Bool
rise number count = each_below (λ k. nat_le (number (k - 1)) (number k)) count

-- bytes are missing before an end, or are left after it
abbrev pub short_of : ℕ → List ℕ → Option WideColumnError
short_of end bytes = if nat_lt (length bytes) end then Some Short else None

abbrev pub trailing_after : ℕ → List ℕ → Option WideColumnError
trailing_after end bytes = if nat_lt end (length bytes) then Some Trailing else None

-- ---- the directory

-- of the byte of the sizes
unfoldable pub sizes_fault : List ℕ → Option WideColumnError
sizes_fault rest =
    if nat_lt (length rest) 1 then Some Short
    else if nat_lt 0 (end_size rest) && nat_le (end_size rest) 4 && nat_lt 0 (bound_size rest) && nat_le (bound_size rest) 8 then None
    else Some (BadSizes (slice_index rest 0))

module _ (chunks : ℕ) (rest : List ℕ) where
  -- of end j
  unfoldable pub end_fault : ℕ → Option WideColumnError
  end_fault j = if nat_lt (end_at chunks rest j) (before (end_at chunks rest) j) then Some (BadOffset j) else None

  -- of the sizes, which are the least for the last end and the greatest bound
  unfoldable pub loose_sizes_fault : Option WideColumnError
  loose_sizes_fault =
      if (end_size rest == byte_count (end_at chunks rest (2 * chunks))) && (bound_size rest == wide_byte_count (numbers.greatest (bound_at rest) (2 * chunks)))
      then None
      else Some (BadSizes (slice_index rest 0))

  unfoldable pub directory_fault : Option WideColumnError
  directory_fault =
      option_or (sizes_fault rest)
      (option_or (short_of (parts_start chunks rest) rest)
      (option_or (first_of end_fault (2 * chunks + 1))
      (option_or loose_sizes_fault
      (option_or (short_of (parts_end chunks rest) rest)
      (trailing_after (parts_end chunks rest) rest)))))

-- ---- the values of a chunk

-- no value is there before position k
abbrev pub is_front : (ℕ → Bool) → ℕ → Bool
is_front missing k = each_below missing k

-- position k has the difference of the one before it, if it has no value, or is the first that has one
abbrev pub is_filled : (ℕ → Bool) → (ℕ → ℕ) → ℕ → Bool
is_filled missing difference k = not (missing k || is_front missing k) || (difference k == difference (k - 1))

-- the bounds are the least and the greatest of `len` values, or 0 if all are missing
abbrev pub has_bounds : ℕ → ℕ → (ℕ → Bool) → (ℕ → ℕ) → ℕ → Bool
has_bounds least greatest missing difference len =
    not (each_below (λ k. nat_lt 0 (difference k)) len) && (least + numbers.greatest difference len == greatest) && (not (is_front missing len) || (least == 0))

-- a column is plain only if its numbers fall
abbrev pub has_kind : ColumnKind → (ℕ → ℕ) → ℕ → Bool
has_kind Sorted number len = true
has_kind Plain number len = not (rise number len)

-- ---- the parts

-- part j is a column of as many values
abbrev pub is_column : ℕ → List ℕ → Bool
is_column len part = is_none (column_faults.fault part) && (length (column_reads.values_in part) == len)

module _ (count : ℕ) (rest : List ℕ) where
  -- of the set of missing positions, which are all below the count
  unfoldable pub missing_fault : Option WideColumnError
  missing_fault =
      let missing = missing_in (chunks_of count) rest in
      if is_none (set_faults.fault (part_at (chunks_of count) rest 0)) && (rank count missing == length missing) then None else Some (BadBody 0)

  -- of the two parts of chunk m
  unfoldable pub low_fault : ℕ → Option WideColumnError
  low_fault m = if is_column (len_at count m) (part_at (chunks_of count) rest (2 * m + 1)) then None else Some (BadBody (2 * m + 1))

  unfoldable pub high_fault : ℕ → Option WideColumnError
  high_fault m =
      let part = part_at (chunks_of count) rest (2 * m + 2) in
      if (if is_high rest m then is_column (len_at count m) part else length part == 0) then None else Some (BadBody (2 * m + 2))

  -- the columns of chunk m are sorted if they can be
  abbrev pub has_low_kind : ℕ → Bool
  has_low_kind m = has_kind (column_reads.kind_in (part_at (chunks_of count) rest (2 * m + 1))) (slice_index (lows_at (chunks_of count) rest m)) (len_at count m)

  abbrev pub has_high_kind : ℕ → Bool
  has_high_kind m =
      if is_high rest m then
      has_kind (column_reads.kind_in (part_at (chunks_of count) rest (2 * m + 2))) (slice_index (highs_at (chunks_of count) rest m)) (len_at count m)
      else true

  -- the values of chunk m have other bounds or other parts
  unfoldable pub loose_fault : ℕ → Option WideColumnError
  loose_fault m =
      let missing = is_missing count rest m in
      let difference = difference_at (chunks_of count) rest m in
      if has_low_kind m && (has_high_kind m && (has_bounds (least_at rest m) (greatest_at rest m) missing difference (len_at count m)
      && each_below (is_filled missing difference) (len_at count m)))
      then None
      else Some (LooseBody m)

  unfoldable pub chunk_fault : ℕ → Option WideColumnError
  chunk_fault m = option_or (low_fault m) (option_or (high_fault m) (loose_fault m))

  -- ---- order

  -- the greatest value of the chunks before chunk m, if they are in order
  unfoldable pub last_before : ℕ → ℕ
  last_before zero = 0
  last_before (suc m) = if is_front (is_missing count rest m) (len_at count m) then last_before m else greatest_at rest m

  -- the values of chunk m are in order, and none is below one of an earlier chunk
  abbrev pub is_in_order : ℕ → Bool
  is_in_order m =
      is_front (is_missing count rest m) (len_at count m) || (nat_le (last_before m) (least_at rest m) && rise (difference_at (chunks_of count) rest m) (len_at count m))

  abbrev pub form_in : ℕ
  form_in = if each_below is_in_order (chunks_of count) then 11 else 10

  -- of what is after the count of values; `form` is byte 0
  unfoldable pub rest_fault : ℕ → Option WideColumnError
  rest_fault form =
      option_or (directory_fault (chunks_of count) rest)
      (option_or missing_fault
      (option_or (first_of chunk_fault (chunks_of count))
      (if form == form_in then None else Some LooseForm)))

-- ---- any bytes

-- a fault of a count as one of wide columns
abbrev pub count_error : GroupError → WideColumnError
count_error groups.Short = Short
count_error (groups.TooLong count) = TooLong count
count_error other = BadNumber

unfoldable pub fault : List ℕ → Option WideColumnError
fault [] = Some Short
fault (form ∷ bytes) =
    if (form == 10) || (form == 11) then
    option_or (option_map count_error (count_fault 0 bytes)) (rest_fault (count_in (form ∷ bytes)) (rest_in (form ∷ bytes)) form)
    else Some (BadVersion form)
