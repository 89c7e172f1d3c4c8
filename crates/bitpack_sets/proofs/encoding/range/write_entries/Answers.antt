-- The entry and the body of one chunk more are written.
use Rattle.std.proofs.Common.{◌+◌, ◌≤◌, length, rules}
use Rattle.bitpack_sets.proofs.lemmas.written.RangeEntries.{range_body_room, range_end, range_end_room, range_key_room, range_more, range_start, range_sum_room}
use Rattle.bitpack_sets.proofs.encoding.range.write_entries.Goals as goal

pub loop-sum-init : goal.loop-sum-init
loop-sum-init c =
    range_start c.args.first c.args.count c.args.end_size c.args.sum_size c.args.keys.now c.args.ends.now c.args.sums.now c.args.out.now c.requires.few c.requires.fits c.requires.keys
    c.requires.ends c.requires.sums c.requires.bodies

pub slice_bounds-write_run_body-end : goal.slice_bounds-write_run_body-end
slice_bounds-write_run_body-end c =
    let room : c.loop-sum.end + c.run_body_len-size.result ≤ length c.loop-sum.out =
    range_body_room c.args.first c.args.count c.loop-sum.index c.loop-sum.end c.loop-sum.sum c.args.end_size c.args.sum_size c.run_from-run.result
    c.loop-sum.keys c.loop-sum.ends c.loop-sum.sums c.loop-sum.out c.loop-sum.invariant c.loop-sum-test.true c.run_from-run.ensures.run c.run_from-run.ensures.within c.run_body_len-size.result c.run_body_len-size.ensures.size in
    search rules

pub write_at-requires : goal.write_at-requires
write_at-requires c =
    range_key_room c.args.first c.args.count c.loop-sum.index c.loop-sum.end c.loop-sum.sum c.args.end_size c.args.sum_size c.run_from-run.result
    c.loop-sum.keys c.loop-sum.ends c.loop-sum.sums c.loop-sum.out c.loop-sum.invariant c.loop-sum-test.true c.run_from-run.ensures.run c.run_from-run.ensures.within

pub write_at-requires-in-loop-sum : goal.write_at-requires-in-loop-sum
write_at-requires-in-loop-sum c =
    range_end_room c.args.first c.args.count c.loop-sum.index c.loop-sum.end c.loop-sum.sum c.args.end_size c.args.sum_size c.run_from-run.result
    c.loop-sum.keys c.loop-sum.ends c.loop-sum.sums c.loop-sum.out c.loop-sum.invariant c.loop-sum-test.true c.run_from-run.ensures.run c.run_from-run.ensures.within c.run_body_len-size.result c.run_body_len-size.ensures.size

pub write_at-requires-in-loop-sum-2 : goal.write_at-requires-in-loop-sum-2
write_at-requires-in-loop-sum-2 c =
    range_sum_room c.args.first c.args.count c.loop-sum.index c.loop-sum.end c.loop-sum.sum c.args.end_size c.args.sum_size c.run_from-run.result
    c.loop-sum.keys c.loop-sum.ends c.loop-sum.sums c.loop-sum.out c.loop-sum.invariant c.loop-sum-test.true c.run_from-run.ensures.run c.run_from-run.ensures.within

pub loop-sum-preserved : goal.loop-sum-preserved
loop-sum-preserved c =
    range_more c.args.first c.args.count c.loop-sum.index c.loop-sum.end c.loop-sum.sum c.args.end_size c.args.sum_size c.run_from-run.result
    c.loop-sum.keys c.loop-sum.ends c.loop-sum.sums c.loop-sum.out c.loop-sum.invariant c.loop-sum-test.true c.run_from-run.ensures.run c.run_from-run.ensures.within
    c.run_body_len-size.result c.write_at.new.out c.write_at-in-loop-sum.new.out c.write_at-in-loop-sum-2.new.out c.write_run_body.new.out c.run_body_len-size.ensures.size c.run_body_len-size.ensures.small
    c.write_at.auto.out c.write_at.ensures.bytes c.write_at-in-loop-sum.auto.out c.write_at-in-loop-sum.ensures.bytes c.write_at-in-loop-sum-2.auto.out
    c.write_at-in-loop-sum-2.ensures.bytes c.write_run_body.ensures

pub returns-clause-keys : goal.returns-clause-keys
returns-clause-keys c = (range_end c.args.first c.args.count c.loop-sum.index c.loop-sum.end c.loop-sum.sum c.args.end_size c.args.sum_size c.loop-sum.keys c.loop-sum.ends c.loop-sum.sums c.loop-sum.out c.loop-sum.invariant c.loop-sum-test.false).0

pub returns-clause-ends : goal.returns-clause-ends
returns-clause-ends c = (range_end c.args.first c.args.count c.loop-sum.index c.loop-sum.end c.loop-sum.sum c.args.end_size c.args.sum_size c.loop-sum.keys c.loop-sum.ends c.loop-sum.sums c.loop-sum.out c.loop-sum.invariant c.loop-sum-test.false).1

pub returns-clause-sums : goal.returns-clause-sums
returns-clause-sums c = (range_end c.args.first c.args.count c.loop-sum.index c.loop-sum.end c.loop-sum.sum c.args.end_size c.args.sum_size c.loop-sum.keys c.loop-sum.ends c.loop-sum.sums c.loop-sum.out c.loop-sum.invariant c.loop-sum-test.false).2

pub returns-clause-bodies : goal.returns-clause-bodies
returns-clause-bodies c = (range_end c.args.first c.args.count c.loop-sum.index c.loop-sum.end c.loop-sum.sum c.args.end_size c.args.sum_size c.loop-sum.keys c.loop-sum.ends c.loop-sum.sums c.loop-sum.out c.loop-sum.invariant c.loop-sum-test.false).3
