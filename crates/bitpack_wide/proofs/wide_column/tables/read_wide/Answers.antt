-- The high bytes count 2 ^ 32.
use Rattle.std.proofs.Common.{arith}
use Rattle.bitpack_wide.proofs.WideTables.{wide_read}
use Rattle.bitpack_wide.proofs.wide_column.tables.read_wide.Goals as goal

pub returns : goal.returns
returns c =
    omega (arith, wide_read c.args.size c.args.start c.args.index c.read_integer-low.result c.read_integer-high.result c.args.bytes.now c.if-size-le4.false c.read_integer-low.ensures c.read_integer-high.ensures)
