-- The body is cut from the rest.
use Rattle.std.proofs.Common.{arith}
use Rattle.bitpack_wide.proofs.EntryLaws.{body_cut, body_end}
use Rattle.bitpack_wide.proofs.directory.Directory.body.Goals as goal

pub slice_bounds-result-end : goal.slice_bounds-result-end
slice_bounds-result-end c =
    let d = c.args.self in
    let e = d.sound.end in
    let fits = body_end d.count d.words c.args.word d.rest.now d.sound.entries (omega arith) c.requires.within in
    omega (arith, c.bodies_start-start.ensures, c.end_at-end.ensures)

pub returns : goal.returns
returns c =
    body_cut c.args.self.words c.args.word c.bodies_start-start.result c.begin_at-begin.result c.end_at-end.result c.args.self.rest.now c.bodies_start-start.ensures c.begin_at-begin.ensures c.end_at-end.ensures
