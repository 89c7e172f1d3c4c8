-- What a column that was opened shows: its bytes, its kind and its values.
use Rattle.std.specs.Prelude.{ℕ, ◌/◌, List, length}
use Rattle.bitpack_columns.specs.declared.column.Column.{Column}
use Rattle.bitpack_columns.specs.declared.column_kind.ColumnKind.{ColumnKind}
use Rattle.bitpack_columns.specs.Stated.{values_in}

-- its bytes
abbrev pub encoding_of : Column → List ℕ
encoding_of column = column.bytes.bytes.now

-- its kind
abbrev pub kind_of : Column → ColumnKind
kind_of column = column.kind

-- its values
abbrev pub values : Column → List ℕ
values column = values_in (encoding_of column)

-- how many whole blocks it has
abbrev pub blocks_of : Column → ℕ
blocks_of column = length (values column) / 128
