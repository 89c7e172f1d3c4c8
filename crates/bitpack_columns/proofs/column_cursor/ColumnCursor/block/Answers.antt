-- The unpacked values from the index on are those from the position on.
use Rattle.bitpack_columns.proofs.CursorLaws.{values_ahead}
use Rattle.bitpack_columns.specs.Opened.{values}
use Rattle.bitpack_columns.proofs.column_cursor.ColumnCursor.block.Goals as goal

pub returns-clause-values : goal.returns-clause-values
returns-clause-values c =
    let self = c.args.self.now in
    values_ahead (values self.column) self.unpacked self.block self.index self.len self.within self.long self.inside self.whole self.values
