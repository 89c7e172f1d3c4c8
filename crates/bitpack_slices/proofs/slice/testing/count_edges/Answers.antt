-- One slice more.
use Rattle.std.proofs.Common.{◌+◌, arith, drop, get_or, leb}
use Rattle.bitpack_slices.proofs.lemmas.bits.CountLaws.{numbers_drop}
use Rattle.bitpack_slices.proofs.lemmas.bodies.BoundLaws.{run_few}
use Rattle.bitpack_slices.proofs.lemmas.slices.EdgeLaws.{edges_done, edges_more}
use Rattle.bitpack_slices.proofs.slice.testing.count_edges.Goals as goal

pub loop-less-preserved : goal.loop-less-preserved
loop-less-preserved c =
    let one = run_few (leb (get_or c.args.window.now (c.loop-less.at + 1) 0) (get_or c.args.window.now c.loop-less.at 0)) in
    let next = numbers_drop c.args.counts.now c.loop-less.less-index c.loop-less-test.true in
    let more = edges_more c.args.counts.now c.args.window.now c.loop-less.less-index c.loop-less.at c.loop-less-test.true in
    record { few = omega arith; room = omega arith; counted = omega arith }

pub returns : goal.returns
returns c = let none = edges_done c.args.counts.now (drop c.loop-less.at c.args.window.now) c.loop-less.less-index c.loop-less-test.false in omega arith

pub bounds-window-at : goal.bounds-window-at
bounds-window-at c = let next = numbers_drop c.args.counts.now c.loop-less.less-index c.loop-less-test.true in omega arith
