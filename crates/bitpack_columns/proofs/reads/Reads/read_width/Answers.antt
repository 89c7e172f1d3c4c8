-- The width of a block is the least for its codes.
use Rattle.std.proofs.Common.{sym, ◌∙◌, arith}
use Rattle.bitpack_columns.proofs.CopiedLaws.{copied_width}
use Rattle.bitpack_columns.proofs.reads.Reads.read_width.Goals as goal

pub returns-clause-is : goal.returns-clause-is
returns-clause-is c = c.width.ensures.is ∙ sym (copied_width c.args.column.now (omega (arith, c.requires)) c.args.block c.requires)
