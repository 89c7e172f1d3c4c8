-- The first fault of bytes as an encoded wide set.
use Rattle.std.specs.Prelude.{ℕ, zero, suc, ◌+◌, ◌*◌, ◌/◌, ◌^◌, ◌&&◌, ◌||◌, ◌==◌, not, is_none, nat_lt, nat_le, if◌then◌else◌, List, [], ◌∷◌, length, slice_index, Option, Some, None}
use Rattle.std.specs.Option.{option_map, option_or}
use Rattle.bitpack_groups.specs.Numbers.{byte_count, number_fault, number_value}
use Rattle.bitpack_groups.specs.declared.group_error.GroupError.{GroupError}
use Rattle.bitpack_groups.specs.declared.group_error.GroupError.TheVariants as groups
use Rattle.bitpack_slices.specs.Slices.{first_fall}
use Rattle.bitpack_sets.specs.Faults as set_faults
use Rattle.bitpack_sets.specs.Reads as set_reads
use Rattle.bitpack_columns.specs.Faults as column_faults
use Rattle.bitpack_columns.specs.Stated as column_reads
use Rattle.bitpack_columns.specs.declared.column_kind.ColumnKind.{ColumnKind}
use Rattle.bitpack_columns.specs.declared.column_kind.ColumnKind.TheVariants.{Plain, Sorted}
use Rattle.bitpack_wide.specs.declared.wide_error.WideError.{WideError}
use Rattle.bitpack_wide.specs.declared.wide_error.WideError.TheVariants.{Short, BadVersion, BadKind, TooLong, BadOffset, NotSorted, Trailing, BadNumber, BadSizes, BadKey, BadSum, BadBody, LooseForm, Column}
use Rattle.bitpack_wide.specs.Directory.{before, bodies_end, bodies_start, body_at, count_at, end_at, end_size, high_at, size_at, sum_at, sum_size}
use Rattle.bitpack_wide.specs.Reads.{after_number, column_in, highs_in, spread_ids}
use Rattle.bitpack_wide.specs.Wide.{is_spread, words_of}

-- bytes are missing before an end, or are left after it
abbrev pub short_of : ℕ → List ℕ → Option WideError
short_of end bytes = if nat_lt (length bytes) end then Some Short else None

abbrev pub trailing_after : ℕ → List ℕ → Option WideError
trailing_after end bytes = if nat_lt end (length bytes) then Some Trailing else None

-- of the first high word that has one
unfoldable pub first_of : (ℕ → Option WideError) → ℕ → Option WideError
first_of fault zero = None
first_of fault (suc count) = option_or (first_of fault count) (fault count)

-- a fault of a number as one of wide sets
abbrev pub number_error : GroupError → WideError
number_error groups.Short = Short
number_error other = BadNumber

abbrev pub of : Option GroupError → Option WideError
of error = option_map number_error error

-- of the number at the front, as the count of ids
unfoldable pub count_fault : List ℕ → Option WideError
count_fault bytes = option_or (of (number_fault bytes)) (if nat_lt (2 ^ 28) (number_value bytes) then Some (TooLong (number_value bytes)) else None)

-- ---- spread out: `rest` is what is after the count of ids

-- of the kind of a column, and of the count of its values
abbrev pub kind_fault : ColumnKind → Option WideError
kind_fault Plain = Some (BadKind 0)
kind_fault Sorted = None

unfoldable pub column_fault : ℕ → List ℕ → Option WideError
column_fault ids rest =
    option_or (option_map Column (column_faults.fault (column_in ids rest)))
    (option_or (kind_fault (column_reads.kind_in (column_in ids rest)))
    (if length (highs_in ids rest) == ids then None else Some (BadSum 0)))

unfoldable pub spread_fault : ℕ → List ℕ → Option WideError
spread_fault ids rest =
    option_or (short_of (4 * ids) rest)
    (option_or (column_fault ids rest)
    (option_or (option_map NotSorted (first_fall 0 (spread_ids ids rest)))
    (if is_spread ids (length (words_of (spread_ids ids rest))) then None else Some LooseForm)))

-- ---- in words: `rest` is what is after the count of high words

-- of the number at the front, as the count of high words of this many ids
unfoldable pub word_count_fault : ℕ → List ℕ → Option WideError
word_count_fault ids bytes = option_or (of (number_fault bytes)) (if (number_value bytes == 0) || nat_lt ids (8 * number_value bytes) then Some BadNumber else None)

-- of the byte of the sizes
unfoldable pub sizes_fault : List ℕ → Option WideError
sizes_fault rest =
    if nat_lt (length rest) 1 then Some Short
    else if nat_lt 0 (end_size rest) && nat_le (end_size rest) 4 && nat_lt 0 (sum_size rest) && nat_le (sum_size rest) 4 then None
    else Some (BadSizes (slice_index rest 0))

-- of high word m, of sum m and of end m
unfoldable pub entry_fault : ℕ → ℕ → List ℕ → ℕ → Option WideError
entry_fault ids words rest m =
    if nat_lt 0 m && nat_le (high_at rest m) (before (high_at rest) m) then Some (BadKey m)
    else if (count_at words rest m == 0) || ((m + 1 == words) && not (sum_at words rest m == ids)) then Some (BadSum m)
    else if (size_at words rest m == 0) || nat_lt (9 * count_at words rest m / 2 + 10) (size_at words rest m) then Some (BadOffset m)
    else None

-- of the sizes, which are the least for the last end and the count of ids
unfoldable pub loose_sizes_fault : ℕ → ℕ → List ℕ → Option WideError
loose_sizes_fault ids words rest =
    if (end_size rest == byte_count (before (end_at words rest) words)) && (sum_size rest == byte_count ids) then None
    else Some (BadSizes (slice_index rest 0))

-- of body m, which is an id set of as many low words as its sum says
unfoldable pub body_fault : ℕ → List ℕ → ℕ → Option WideError
body_fault words rest m =
    if is_none (set_faults.fault (body_at words rest m)) && (length (set_reads.ids_in (body_at words rest m)) == count_at words rest m) then None
    else Some (BadBody m)

unfoldable pub words_fault : ℕ → ℕ → List ℕ → Option WideError
words_fault ids words rest =
    option_or (sizes_fault rest)
    (option_or (short_of (bodies_start words rest) rest)
    (option_or (first_of (entry_fault ids words rest) words)
    (option_or (loose_sizes_fault ids words rest)
    (option_or (short_of (bodies_end words rest) rest)
    (option_or (first_of (body_fault words rest) words)
    (trailing_after (bodies_end words rest) rest))))))

-- ---- any bytes

-- of what is after byte 0
unfoldable pub in_spread_fault : List ℕ → Option WideError
in_spread_fault bytes = option_or (count_fault bytes) (spread_fault (number_value bytes) (after_number bytes))

unfoldable pub in_words_fault : List ℕ → Option WideError
in_words_fault bytes =
    let later = after_number bytes in
    option_or (count_fault bytes)
    (option_or (word_count_fault (number_value bytes) later)
    (words_fault (number_value bytes) (number_value later) (after_number later)))

unfoldable pub fault : List ℕ → Option WideError
fault [] = Some Short
fault (form ∷ bytes) = if form == 8 then in_words_fault bytes else if form == 9 then in_spread_fault bytes else Some (BadVersion form)
