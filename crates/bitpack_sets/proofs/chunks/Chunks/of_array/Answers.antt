-- Each id has four bytes.
use Rattle.std.proofs.Common.{sym}
use Rattle.bitpack_slices.proofs.ForCallers.{quads_len}
use Rattle.bitpack_sets.proofs.chunks.Chunks.of_array.Goals as goal

pub returns-clause-places : goal.returns-clause-places
returns-clause-places c = sym (quads_len c.args.rest.now)
