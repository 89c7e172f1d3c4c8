-- The chunk at hand, or the one that has the position.
use Rattle.std.proofs.Common.{arith}
use Rattle.bitpack_sets.proofs.directory.Directory.chunk_at.Goals as goal

pub returns-clause-place : goal.returns-clause-place
returns-clause-place c = record { within = c.chunk_of.ensures.chunk; place = c.first.ensures.place _ }

pub returns-clause-after : goal.returns-clause-after
returns-clause-after c = omega (arith, c.first.ensures.before, c.chunk_of.ensures.from)
