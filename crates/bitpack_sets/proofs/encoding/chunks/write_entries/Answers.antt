-- The entry and the body of one chunk more are written.
use Rattle.std.proofs.Common.{◌≡◌, ℕ, ◌+◌, ◌*◌, ◌≤◌, List, length, take, arith, rules, ◌∙◌}
use Rattle.std.proofs.lemmas.List.{length-take-le}
use Rattle.bitpack_groups.proofs.ForCallers.{lent_len}
use Rattle.bitpack_sets.proofs.lemmas.written.EntriesFilled.{body_room, end_room, entries_end, entries_more, entries_start, key_room, sum_room}
use Rattle.bitpack_sets.proofs.lemmas.written.RunLaws.{chunk_few, run_chunk}
use Rattle.bitpack_sets.proofs.encoding.chunks.write_entries.Goals as goal
use Rattle.bitpack_sets.specs.Sets.{body}
use Rattle.bitpack_sets.specs.Written.{lows}

pub loop-left-init : goal.loop-left-init
loop-left-init c =
    entries_start c.args.ids.now c.args.start c.args.before c.args.end_size c.args.sum_size c.args.keys.now c.args.ends.now c.args.sums.now c.args.out.now c.requires.set c.requires.keys c.requires.ends
    c.requires.sums c.requires.bodies

pub measure_body-slices-requires-clause-chunk : goal.measure_body-slices-requires-clause-chunk
measure_body-slices-requires-clause-chunk c = run_chunk c.run_len-run.result c.loop-left.left.now c.loop-left.invariant.measured.rising c.run_len-run.ensures

pub measure_body-slices-requires-clause-few : goal.measure_body-slices-requires-clause-few
measure_body-slices-requires-clause-few c =
    chunk_few (take c.run_len-run.result c.loop-left.left.now) (run_chunk c.run_len-run.result c.loop-left.left.now c.loop-left.invariant.measured.rising c.run_len-run.ensures)

pub slice_bounds-write_body-end : goal.slice_bounds-write_body-end
slice_bounds-write_body-end c =
    let run : ℕ = c.run_len-run.result in
    let left : List ℕ = c.loop-left.left.now in
    let long : c.measure_body-slices.result.1 ≡ length (body (lows (take run left))) = c.measure_body-slices.ensures.size in
    let room : c.loop-left.end + c.measure_body-slices.result.1 ≤ length c.loop-left.out =
    body_room c.args.ids.now c.loop-left.left.now c.args.start c.args.before c.loop-left.index c.loop-left.end c.loop-left.sum c.args.end_size c.args.sum_size c.run_len-run.result c.loop-left.keys
    c.loop-left.ends c.loop-left.sums c.loop-left.out c.loop-left.invariant c.run_len-run.ensures
    c.measure_body-slices.result.1 long in
    search rules

pub write_body-requires-clause-chunk : goal.write_body-requires-clause-chunk
write_body-requires-clause-chunk c = run_chunk c.run_len-run.result c.loop-left.left.now c.loop-left.invariant.measured.rising c.run_len-run.ensures

pub write_body-requires-clause-size : goal.write_body-requires-clause-size
write_body-requires-clause-size c =
    let run : ℕ = c.run_len-run.result in
    let left : List ℕ = c.loop-left.left.now in
    let long : c.measure_body-slices.result.1 ≡ length (body (lows (take run left))) = c.measure_body-slices.ensures.size in
    let room : c.loop-left.end + c.measure_body-slices.result.1 ≤ length c.loop-left.out =
    body_room c.args.ids.now c.loop-left.left.now c.args.start c.args.before c.loop-left.index c.loop-left.end c.loop-left.sum c.args.end_size c.args.sum_size c.run_len-run.result c.loop-left.keys
    c.loop-left.ends c.loop-left.sums c.loop-left.out c.loop-left.invariant c.run_len-run.ensures
    c.measure_body-slices.result.1 long in
    lent_len c.loop-left.end c.measure_body-slices.result.1 c.loop-left.out room ∙ long

pub write_at-requires : goal.write_at-requires
write_at-requires c =
    key_room c.args.ids.now c.loop-left.left.now c.args.start c.args.before c.loop-left.index c.loop-left.end c.loop-left.sum c.args.end_size c.args.sum_size c.run_len-run.result c.loop-left.keys
    c.loop-left.ends c.loop-left.sums c.loop-left.out c.loop-left.invariant c.run_len-run.ensures

pub write_at-requires-in-loop-left : goal.write_at-requires-in-loop-left
write_at-requires-in-loop-left c =
    let run : ℕ = c.run_len-run.result in
    let left : List ℕ = c.loop-left.left.now in
    let long : c.measure_body-slices.result.1 ≡ length (body (lows (take run left))) = c.measure_body-slices.ensures.size in
    end_room c.args.ids.now c.loop-left.left.now c.args.start c.args.before c.loop-left.index c.loop-left.end c.loop-left.sum c.args.end_size c.args.sum_size c.run_len-run.result c.loop-left.keys
    c.loop-left.ends c.loop-left.sums c.loop-left.out c.loop-left.invariant c.run_len-run.ensures
    c.measure_body-slices.result.1 long

pub write_at-requires-in-loop-left-2 : goal.write_at-requires-in-loop-left-2
write_at-requires-in-loop-left-2 c =
    sum_room c.args.ids.now c.loop-left.left.now c.args.start c.args.before c.loop-left.index c.loop-left.end c.loop-left.sum c.args.end_size c.args.sum_size c.run_len-run.result c.loop-left.keys
    c.loop-left.ends c.loop-left.sums c.loop-left.out c.loop-left.invariant c.run_len-run.ensures

pub loop-left-preserved : goal.loop-left-preserved
loop-left-preserved c =
    let run : ℕ = c.run_len-run.result in
    let left : List ℕ = c.loop-left.left.now in
    let long : c.measure_body-slices.result.1 ≡ length (body (lows (take run left))) = c.measure_body-slices.ensures.size in
    let run_size = length-take-le run left c.run_len-run.ensures.within in
    let few : c.measure_body-slices.result.1 ≤ 2 * run = omega (arith, c.measure_body-slices.ensures.small) in
    entries_more c.args.ids.now c.loop-left.left.now c.args.start c.args.before c.loop-left.index c.loop-left.end c.loop-left.sum c.args.end_size c.args.sum_size c.run_len-run.result c.loop-left.keys
    c.loop-left.ends c.loop-left.sums c.loop-left.out c.loop-left.invariant c.run_len-run.ensures
    c.measure_body-slices.result.1 c.write_at.new.out c.write_at-in-loop-left.new.out c.write_at-in-loop-left-2.new.out c.write_body.new.out long few
    c.write_at.auto.out c.write_at.ensures.bytes c.write_at-in-loop-left.auto.out c.write_at-in-loop-left.ensures.bytes c.write_at-in-loop-left-2.auto.out
    c.write_at-in-loop-left-2.ensures.bytes c.write_body.ensures

pub returns-clause-keys : goal.returns-clause-keys
returns-clause-keys c =
    let none : length c.loop-left.left.now ≡ 0 = search rules in
    (entries_end c.args.ids.now c.loop-left.left.now c.args.start c.args.before c.loop-left.index c.loop-left.end c.loop-left.sum c.args.end_size c.args.sum_size c.loop-left.keys c.loop-left.ends
    c.loop-left.sums c.loop-left.out c.loop-left.invariant none).0

pub returns-clause-ends : goal.returns-clause-ends
returns-clause-ends c =
    let none : length c.loop-left.left.now ≡ 0 = search rules in
    (entries_end c.args.ids.now c.loop-left.left.now c.args.start c.args.before c.loop-left.index c.loop-left.end c.loop-left.sum c.args.end_size c.args.sum_size c.loop-left.keys c.loop-left.ends
    c.loop-left.sums c.loop-left.out c.loop-left.invariant none).1

pub returns-clause-sums : goal.returns-clause-sums
returns-clause-sums c =
    let none : length c.loop-left.left.now ≡ 0 = search rules in
    (entries_end c.args.ids.now c.loop-left.left.now c.args.start c.args.before c.loop-left.index c.loop-left.end c.loop-left.sum c.args.end_size c.args.sum_size c.loop-left.keys c.loop-left.ends
    c.loop-left.sums c.loop-left.out c.loop-left.invariant none).2

pub returns-clause-bodies : goal.returns-clause-bodies
returns-clause-bodies c =
    let none : length c.loop-left.left.now ≡ 0 = search rules in
    (entries_end c.args.ids.now c.loop-left.left.now c.args.start c.args.before c.loop-left.index c.loop-left.end c.loop-left.sum c.args.end_size c.args.sum_size c.loop-left.keys c.loop-left.ends
    c.loop-left.sums c.loop-left.out c.loop-left.invariant none).3
