-- The lanes' comparisons, bit by bit.
use Rattle.bitpack_columns.proofs.MatchLaws.{matches_from, small_from}
use Rattle.bitpack_columns.proofs.column.within.matches_of_eight.Goals as goal

pub overflow_cast-result : goal.overflow_cast-result
overflow_cast-result c = record { fits = small_from c.args.values.now c.args.at c.args.low c.args.high c.requires }

pub returns : goal.returns
returns c = matches_from c.args.values.now c.args.at c.args.low c.args.high c.requires
