-- The sum of a chunk is within the sums.
use Rattle.std.proofs.Common.{◌/◌, ℕ, arith, get_or}
use Rattle.bitpack_groups.proofs.ForCallers.{within_all}
use Rattle.bitpack_sets.proofs.directory.sum_at.Goals as goal

pub read_integer-requires-clause-within : goal.read_integer-requires-clause-within
read_integer-requires-clause-within c =
    let size : ℕ = get_or c.args.rest.now 0 0 / 16 in
    let all = within_all size c.args.chunk c.args.chunks c.requires.within in
    let room = c.requires.directory.room in
    omega arith
