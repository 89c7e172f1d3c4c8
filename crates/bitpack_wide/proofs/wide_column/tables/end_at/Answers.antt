-- An end is one of those that there are.
use Rattle.std.proofs.Common.{◌+◌, ◌*◌, arith}
use Rattle.bitpack_groups.proofs.ForCallers.{within_all}
use Rattle.bitpack_wide.specs.WideColumnReads.{end_size}
use Rattle.bitpack_wide.proofs.wide_column.tables.end_at.Goals as goal

pub read_integer-requires-clause-within : goal.read_integer-requires-clause-within
read_integer-requires-clause-within c =
    omega (arith, within_all (end_size c.args.rest.now) c.args.part (2 * c.args.chunks + 1) c.requires.within, c.requires.tables.room, c.ends_start.ensures.start)
