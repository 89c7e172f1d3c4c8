-- What the sizes and the ends say if they have no fault.
use Rattle.std.proofs.Common.{arith}
use Rattle.bitpack_wide.proofs.WideTables.{has_tables, some_sizes}
use Rattle.bitpack_wide.proofs.wide_column.opening.test_directory.Goals as goal

pub parts_start-start-requires-clause-some : goal.parts_start-start-requires-clause-some
parts_start-start-requires-clause-some c = some_sizes c.args.rest.now c.in_ok-test_sizes.ensures

pub test_ends-requires-clause-tables : goal.test_ends-requires-clause-tables
test_ends-requires-clause-tables c = has_tables c.args.chunks c.args.rest.now c.in_ok-test_sizes.ensures (omega (arith, c.parts_start-start.ensures.start, c.if-rest-start.false))

pub test_least-requires-clause-tables : goal.test_least-requires-clause-tables
test_least-requires-clause-tables c = has_tables c.args.chunks c.args.rest.now c.in_ok-test_sizes.ensures (omega (arith, c.parts_start-start.ensures.start, c.if-rest-start.false))

pub end_at-requires-clause-tables : goal.end_at-requires-clause-tables
end_at-requires-clause-tables c = has_tables c.args.chunks c.args.rest.now c.in_ok-test_sizes.ensures (omega (arith, c.parts_start-start.ensures.start, c.if-rest-start.false))
