-- One chunk more is measured.
use Rattle.std.proofs.Common.{arith}
use Rattle.bitpack_sets.proofs.lemmas.written.RangeFilled.{ids_counted, ids_more, ids_sized, ids_small, ids_start}
use Rattle.bitpack_sets.proofs.encoding.range.measure_chunks.Goals as goal

pub loop-done-init : goal.loop-done-init
loop-done-init c = ids_start c.args.first c.args.count c.requires.fits

pub overflow_add-bodies : goal.overflow_add-bodies
overflow_add-bodies c =
    let small = ids_small c.args.first c.args.count c.loop-done.done c.loop-done.chunks c.loop-done.bodies c.loop-done.invariant in
    let few = c.requires.few in
    let own = c.run_from-run.ensures.within in
    let size = c.run_body_len-bodies.ensures.small in
    omega arith

pub loop-done-preserved : goal.loop-done-preserved
loop-done-preserved c =
    ids_more c.args.first c.args.count c.loop-done.done c.loop-done.chunks c.loop-done.bodies c.run_from-run.result c.run_body_len-bodies.result c.loop-done.invariant c.loop-done-test.true
    c.run_from-run.ensures.run c.run_from-run.ensures.within c.run_from-run.ensures.whole c.run_body_len-bodies.ensures.size c.run_body_len-bodies.ensures.small

pub returns-clause-chunks : goal.returns-clause-chunks
returns-clause-chunks c =
    ids_counted c.args.first c.args.count c.loop-done.done c.loop-done.chunks c.loop-done.bodies c.loop-done.invariant c.loop-done-test.false

pub returns-clause-bodies : goal.returns-clause-bodies
returns-clause-bodies c = ids_sized c.args.first c.args.count c.loop-done.done c.loop-done.chunks c.loop-done.bodies c.loop-done.invariant c.loop-done-test.false

pub returns-clause-small : goal.returns-clause-small
returns-clause-small c = ids_small c.args.first c.args.count c.loop-done.done c.loop-done.chunks c.loop-done.bodies c.loop-done.invariant
