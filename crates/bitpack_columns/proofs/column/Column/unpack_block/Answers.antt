-- The values of the body are those of the block.
use Rattle.bitpack_columns.proofs.OpenedLaws.{block_unpacked, long_body}
use Rattle.bitpack_columns.proofs.column.Column.unpack_block.Goals as goal

pub unpack_body-requires-clause-body : goal.unpack_body-requires-clause-body
unpack_body-requires-clause-body c =
    long_body c.args.self.now c.args.block c.requires.block c.width.result c.body.result.now c.width.ensures.is c.body.ensures

pub returns : goal.returns
returns c =
    block_unpacked c.args.self.now c.args.block c.requires.block c.base-base.result c.width.result c.body.result.now c.unpack_body.new.out
    c.base-base.ensures c.width.ensures.is c.body.ensures c.unpack_body.ensures
