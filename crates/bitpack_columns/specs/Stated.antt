-- What the first bytes of an encoded column state.
use Rattle.std.specs.Prelude.{ℕ, ◌+◌, ◌%◌, Bool, false, nat_lt, if◌then◌else◌, List, drop, slice_index}
use Rattle.bitpack_columns.specs.declared.column_kind.ColumnKind.{ColumnKind}
use Rattle.bitpack_columns.specs.declared.column_kind.ColumnKind.TheVariants.{Plain, Sorted}
use Rattle.bitpack_columns.specs.Numbers.{number_end, number_value}
use Rattle.bitpack_columns.specs.Reads.{column_values}

-- the kind, and whether the count is in byte 0
abbrev pub kind_in : List ℕ → ColumnKind
kind_in bytes = if nat_lt (slice_index bytes 0) 96 then Plain else Sorted

abbrev pub is_few : List ℕ → Bool
is_few bytes = nat_lt (slice_index bytes 0 % 32) 31

-- the count of values, and what is after it
abbrev pub count_in : List ℕ → ℕ
count_in bytes = if is_few bytes then slice_index bytes 0 % 32 else number_value (drop 1 bytes)

abbrev pub after_count : List ℕ → List ℕ
after_count bytes = if is_few bytes then drop 1 bytes else drop (1 + number_end (drop 1 bytes)) bytes

-- whether a column has its first value before its blocks
abbrev pub has_first : ColumnKind → ℕ → Bool
has_first Plain count = false
has_first Sorted count = nat_lt 0 count

-- the first value, 0 if it is not there, and what is after it
abbrev pub first_in : List ℕ → ℕ
first_in bytes = if has_first (kind_in bytes) (count_in bytes) then number_value (after_count bytes) else 0

abbrev pub rest_in : List ℕ → List ℕ
rest_in bytes = if has_first (kind_in bytes) (count_in bytes) then drop (number_end (after_count bytes)) (after_count bytes) else after_count bytes

-- the values of encoded bytes
unfoldable pub values_in : List ℕ → List ℕ
values_in bytes = column_values (kind_in bytes) (first_in bytes) (count_in bytes) (rest_in bytes)
