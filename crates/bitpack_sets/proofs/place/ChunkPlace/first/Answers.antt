-- It is in the first chunk.
use Rattle.std.proofs.Common.{arith}
use Rattle.bitpack_sets.proofs.place.ChunkPlace.first.Goals as goal

pub returns-clause-place : goal.returns-clause-place
returns-clause-place c = λ chunks rest some. record { within = some; place = c.first.ensures.place _ }

pub returns-clause-first : goal.returns-clause-first
returns-clause-first c = λ chunks rest. omega (arith, c.first.ensures.before)
