-- One sum more is written.
use Rattle.std.proofs.Common.{arith}
use Rattle.bitpack_sets.proofs.lemmas.written.GatheredLaws.{sums_done, sums_more, sums_room, sums_small, sums_start}
use Rattle.bitpack_sets.proofs.encoding.gathered.write_sums.Goals as goal

pub loop-index-init : goal.loop-index-init
loop-index-init c = sums_start c.args.size c.args.values.now c.args.out.now c.requires.size

pub overflow_add-sum : goal.overflow_add-sum
overflow_add-sum c =
    let small = sums_small c.args.size c.args.values.now c.loop-index.index c.loop-index.sum c.loop-index.out c.loop-index.invariant c.loop-index-test.true in
    let few = c.requires.few in
    omega arith

pub write_at-requires : goal.write_at-requires
write_at-requires c = sums_room c.args.size c.args.values.now c.loop-index.index c.loop-index.sum c.loop-index.out c.loop-index.invariant c.loop-index-test.true

pub loop-index-preserved : goal.loop-index-preserved
loop-index-preserved c =
    sums_more c.args.size c.args.values.now c.loop-index.index c.loop-index.sum c.loop-index.out c.loop-index.invariant c.loop-index-test.true c.write_at.new.out c.write_at.auto.out c.write_at.ensures.bytes

pub returns : goal.returns
returns c = sums_done c.args.size c.args.values.now c.loop-index.index c.loop-index.sum c.loop-index.out c.loop-index.invariant (omega arith)
