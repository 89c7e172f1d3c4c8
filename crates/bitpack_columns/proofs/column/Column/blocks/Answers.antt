-- The blocks are those of the values.
use Rattle.bitpack_columns.proofs.OpenedLaws.{blocks_is}
use Rattle.bitpack_columns.proofs.column.Column.blocks.Goals as goal

pub returns : goal.returns
returns c = blocks_is c.args.self.now
