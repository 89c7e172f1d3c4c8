-- A bound is one of those that there are.
use Rattle.std.proofs.Common.{◌*◌, arith}
use Rattle.bitpack_groups.proofs.ForCallers.{within_all}
use Rattle.bitpack_wide.specs.WideColumnReads.{bound_size}
use Rattle.bitpack_wide.proofs.wide_column.tables.bound_at.Goals as goal

pub read_wide-requires-clause-within : goal.read_wide-requires-clause-within
read_wide-requires-clause-within c =
    omega (arith, within_all (bound_size c.args.rest.now) c.args.index (2 * c.args.chunks) c.requires.within, c.requires.tables.room)
