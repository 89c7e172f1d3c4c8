-- The body is cut from the rest.
use Rattle.std.proofs.Common.{arith}
use Rattle.bitpack_sets.proofs.lemmas.reads.ChunkReads.{body_cut, body_end}
use Rattle.bitpack_sets.proofs.directory.Directory.body.Goals as goal

pub bodies_start-start-requires-clause-some : goal.bodies_start-start-requires-clause-some
bodies_start-start-requires-clause-some c = let room = c.args.self.sound.directory.room in omega arith

pub slice_bounds-result-end : goal.slice_bounds-result-end
slice_bounds-result-end c =
    let fits = body_end c.args.self.count c.args.self.chunks c.args.chunk c.args.self.rest.now c.args.self.sound c.requires.within in
    omega (arith, c.bodies_start-start.ensures, c.end_at-end.ensures)

pub returns : goal.returns
returns c =
    body_cut c.args.self.chunks c.args.chunk c.bodies_start-start.result c.begin_at-begin.result c.end_at-end.result c.args.self.rest.now c.bodies_start-start.ensures c.begin_at-begin.ensures c.end_at-end.ensures
