-- It begins at the first chunk.
use Rattle.std.proofs.Common.{arith}
use Rattle.bitpack_sets.proofs.directory.Directory.unpack_from.Goals as goal

pub unpack_at-requires-clause-place : goal.unpack_at-requires-clause-place
unpack_at-requires-clause-place c = c.first.ensures.place c.args.self.chunks c.args.self.rest.now c.args.self.sound.some

pub unpack_at-requires-clause-after : goal.unpack_at-requires-clause-after
unpack_at-requires-clause-after c = omega (arith, c.first.ensures.first c.args.self.chunks c.args.self.rest.now)
