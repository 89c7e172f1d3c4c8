-- The end of a block is at or after the one before, by at most 32, and its codes fit its width.
use Rattle.std.proofs.Common.{arith}
use Rattle.bitpack_columns.proofs.OpenedLaws.{entries, narrow, plain_fits, rising}
use Rattle.bitpack_columns.proofs.column.Column.width.Goals as goal

pub end_at-requires-clause-entries : goal.end_at-requires-clause-entries
end_at-requires-clause-entries c = rw c.blocks-blocks.ensures (entries c.args.self.now c.args.block c.requires)

pub begin_at-requires-clause-entries : goal.begin_at-requires-clause-entries
begin_at-requires-clause-entries c = rw c.blocks-blocks.ensures (entries c.args.self.now c.args.block c.requires)

pub overflow_sub-result : goal.overflow_sub-result
overflow_sub-result c = omega (arith, c.begin_at.ensures, c.end_at.ensures, rising c.args.self.now c.args.block c.requires)

pub overflow_cast-result : goal.overflow_cast-result
overflow_cast-result c = record { fits = omega (arith, c.begin_at.ensures, c.end_at.ensures, narrow c.args.self.now c.args.block c.requires) }

pub returns-clause-narrow : goal.returns-clause-narrow
returns-clause-narrow c = omega (arith, c.begin_at.ensures, c.end_at.ensures, narrow c.args.self.now c.args.block c.requires)

pub returns-clause-fits : goal.returns-clause-fits
returns-clause-fits c = λ plain k inside. rw (c.begin_at.ensures, c.end_at.ensures) (plain_fits c.args.self.now c.args.block c.requires plain k inside)
