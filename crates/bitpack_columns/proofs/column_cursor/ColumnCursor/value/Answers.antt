-- The value at the index is the one at the position.
use Rattle.bitpack_columns.proofs.CursorLaws.{value_ahead}
use Rattle.bitpack_columns.specs.Opened.{values}
use Rattle.bitpack_columns.proofs.column_cursor.ColumnCursor.value.Goals as goal

pub returns : goal.returns
returns c =
    let self = c.args.self.now in
    value_ahead (values self.column) self.unpacked self.block self.index self.len self.long self.values c.if-self.false
