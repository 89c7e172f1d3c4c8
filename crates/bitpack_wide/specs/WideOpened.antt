-- What a wide column that was opened shows: its bytes and its values.
use Rattle.std.specs.Prelude.{ℕ, List, [], ◌∷◌, map, Option, Some, None}
use Rattle.bitpack_wide.specs.declared.wide_column.WideColumn.{WideColumn}
use Rattle.bitpack_wide.specs.WideColumnReads.{values_in}
use Rattle.bitpack_wide.specs.WideColumns.{greatest, least}

-- its bytes
abbrev pub encoding_of : WideColumn → List ℕ
encoding_of column = column.bytes.now

-- its values
abbrev pub values : WideColumn → List (Option ℕ)
values column = values_in (encoding_of column)

-- the least and the greatest of some numbers, if there is one
abbrev pub bounds_of : List ℕ → Option (ℕ × ℕ)
bounds_of [] = None
bounds_of (x ∷ xs) = Some (least (x ∷ xs), greatest (x ∷ xs))

-- each value, or this number if it is missing
abbrev pub value_or : ℕ → Option ℕ → ℕ
value_or fill None = fill
value_or fill (Some value) = value

abbrev pub with_fill : ℕ → List (Option ℕ) → List ℕ
with_fill fill values = map (value_or fill) values
