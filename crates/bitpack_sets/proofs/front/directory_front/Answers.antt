-- The sizes have no fault, and there is room for the directory.
use Rattle.std.proofs.Common.{arith}
use Rattle.bitpack_sets.proofs.lemmas.faults.EntryLaws.{has_directory, sizes_none}
use Rattle.bitpack_sets.proofs.front.directory_front.Goals as goal

pub bodies_start-start-requires-clause-some : goal.bodies_start-start-requires-clause-some
bodies_start-start-requires-clause-some c = (sizes_none c.args.rest.now c.in-Ok.ensures).0

pub begin_at-requires-clause-directory : goal.begin_at-requires-clause-directory
begin_at-requires-clause-directory c = has_directory c.args.chunks c.args.rest.now c.in-Ok.ensures (omega (arith, c.bodies_start-start.ensures, c.if-rest-start.false))
