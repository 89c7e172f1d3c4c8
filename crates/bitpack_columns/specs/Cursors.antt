-- A cursor over a column: its values, and the position that it is at.
use Rattle.std.specs.Prelude.{◌≡◌, ℕ, ◌+◌, ◌*◌, ◌/◌, ◌==◌, if◌then◌else◌, List, drop}
use Rattle.bitpack_columns.specs.declared.column_cursor.ColumnCursor.{ColumnCursor}
use Rattle.bitpack_columns.specs.Opened.{values}

-- the values of its column
abbrev pub all_of : ColumnCursor → List ℕ
all_of cursor = values cursor.column

-- how many of them are before it
abbrev pub position_of : ColumnCursor → ℕ
position_of cursor = 128 * cursor.block + cursor.index

-- those from its position on
abbrev pub left_of : ColumnCursor → List ℕ
left_of cursor = drop (position_of cursor) (all_of cursor)

-- how many blocks it unpacked; the tail counts as one
abbrev pub unpacked_by : ColumnCursor → ℕ
unpacked_by cursor = cursor.reads.blocks

-- a move within a block unpacked nothing, and one to another block unpacked one
abbrev pub Unpacks : ColumnCursor → ColumnCursor → Type 0
Unpacks old new = unpacked_by new ≡ unpacked_by old + (if position_of old / 128 == position_of new / 128 then 0 else 1)
