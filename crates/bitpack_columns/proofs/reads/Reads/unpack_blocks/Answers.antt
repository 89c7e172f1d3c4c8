-- The blocks are few.
use Rattle.std.proofs.Common.{arith}
use Rattle.bitpack_columns.proofs.OpenedLaws.{few_values}
use Rattle.bitpack_columns.proofs.reads.Reads.unpack_blocks.Goals as goal

pub overflow_cast-out : goal.overflow_cast-out
overflow_cast-out c = record { fits = omega (arith, c.requires.within, few_values c.args.column.now) }
