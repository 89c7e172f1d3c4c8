-- There are as many values as were counted.
use Rattle.std.proofs.Common.{arith}
use Rattle.bitpack_columns.proofs.OpenedLaws.{count_is}
use Rattle.bitpack_columns.proofs.column_cursor.ColumnCursor.move_to.Goals as goal

pub enter-requires-clause-block : goal.enter-requires-clause-block
enter-requires-clause-block c = omega (arith, c.min-to.ensures, count_is c.args.self.now.column)

pub enter-requires-clause-within : goal.enter-requires-clause-within
enter-requires-clause-within c = omega (arith, c.min-to.ensures, count_is c.args.self.now.column)

pub returns-clause-position : goal.returns-clause-position
returns-clause-position c = omega (arith, c.min-to.ensures, c.enter.ensures.position, count_is c.args.self.now.column)
