-- One slice more.
use Rattle.std.proofs.Common.{◌-◌, drop, get_or, arith}
use Rattle.bitpack_sets.proofs.lemmas.written.EndsFilled.{left_next}
use Rattle.bitpack_sets.proofs.lemmas.written.PartsFilled.{counts_end, counts_more, counts_room, counts_start}
use Rattle.bitpack_sets.proofs.lemmas.written.RunLaws.{slice_few}
use Rattle.bitpack_sets.proofs.encoding.bodies.write_counts.Goals as goal

pub loop-index-init : goal.loop-index-init
loop-index-init c = counts_start c.args.ids.now c.args.ends.now c.args.firsts.now c.args.less.now c.requires.chunk c.requires.ends c.requires.firsts c.requires.less

pub bounds-ids-begin : goal.bounds-ids-begin
bounds-ids-begin c =
    (counts_room c.args.ids.now c.args.ends.now c.loop-index.firsts c.loop-index.less c.loop-index.index c.loop-index.begin c.loop-index.invariant c.loop-index-test.true).2

pub bounds-firsts-index : goal.bounds-firsts-index
bounds-firsts-index c =
    (counts_room c.args.ids.now c.args.ends.now c.loop-index.firsts c.loop-index.less c.loop-index.index c.loop-index.begin c.loop-index.invariant c.loop-index-test.true).0

pub overflow_sub-less : goal.overflow_sub-less
overflow_sub-less c =
    let next = left_next c.args.ids.now c.args.ends.now c.loop-index.index c.loop-index.begin c.loop-index.invariant.ends_left c.loop-index-test.true in
    let above = next.above in
    omega arith

pub overflow_sub-less-in-loop-index : goal.overflow_sub-less-in-loop-index
overflow_sub-less-in-loop-index c =
    let next = left_next c.args.ids.now c.args.ends.now c.loop-index.index c.loop-index.begin c.loop-index.invariant.ends_left c.loop-index-test.true in
    let above = next.above in
    omega arith

pub overflow_cast-less : goal.overflow_cast-less
overflow_cast-less c =
    let next = left_next c.args.ids.now c.args.ends.now c.loop-index.index c.loop-index.begin c.loop-index.invariant.ends_left c.loop-index-test.true in
    let few = slice_few (get_or c.args.ends.now c.loop-index.index 0 - c.loop-index.begin) (drop c.loop-index.begin c.args.ids.now) c.loop-index.invariant.ends_left.chunk next.run in
    omega arith

pub bounds-less-index : goal.bounds-less-index
bounds-less-index c =
    (counts_room c.args.ids.now c.args.ends.now c.loop-index.firsts c.loop-index.less c.loop-index.index c.loop-index.begin c.loop-index.invariant c.loop-index-test.true).1

pub loop-index-preserved : goal.loop-index-preserved
loop-index-preserved c =
    counts_more c.args.ids.now c.args.ends.now c.loop-index.firsts c.loop-index.less c.loop-index.index c.loop-index.begin c.loop-index.invariant c.loop-index-test.true

pub returns-clause-firsts : goal.returns-clause-firsts
returns-clause-firsts c =
    (counts_end c.args.ids.now c.args.ends.now c.loop-index.firsts c.loop-index.less c.loop-index.index c.loop-index.begin c.loop-index.invariant c.loop-index-test.false).0

pub returns-clause-less : goal.returns-clause-less
returns-clause-less c =
    (counts_end c.args.ids.now c.args.ends.now c.loop-index.firsts c.loop-index.less c.loop-index.index c.loop-index.begin c.loop-index.invariant c.loop-index-test.false).1
