-- The block that was read has its values.
use Rattle.bitpack_columns.specs.Opened.{values}
use Rattle.bitpack_columns.proofs.OpenedLaws.{value_unpacked}
use Rattle.bitpack_columns.proofs.column.Column.cache.Goals as goal

pub returns-then-last-block-clause-values : goal.returns-then-last-block-clause-values
returns-then-last-block-clause-values c = λ position lt here.
    value_unpacked (values c.args.self.now) c.unpack_block.new.out c.args.block c.unpack_block.result position c.unpack_block.ensures.values
    c.unpack_block.ensures.len lt here
