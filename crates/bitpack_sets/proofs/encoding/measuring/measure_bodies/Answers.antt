-- One chunk more is measured.
use Rattle.std.proofs.Common.{◌≡◌, length, take, arith, rules}
use Rattle.std.proofs.lemmas.List.{length-take-le}
use Rattle.bitpack_sets.proofs.lemmas.written.MeasureLaws.{chunks_end, chunks_more}
use Rattle.bitpack_sets.proofs.lemmas.written.RunLaws.{chunk_few, run_chunk}
use Rattle.bitpack_sets.proofs.encoding.measuring.measure_bodies.Goals as goal

pub loop-left-init : goal.loop-left-init
loop-left-init c = record { rising = c.requires.rising; sized = omega arith; small = omega arith }

pub measure_body-bodies-requires-clause-chunk : goal.measure_body-bodies-requires-clause-chunk
measure_body-bodies-requires-clause-chunk c = run_chunk c.run_len-run.result c.loop-left.left.now c.loop-left.invariant.rising c.run_len-run.ensures

pub measure_body-bodies-requires-clause-few : goal.measure_body-bodies-requires-clause-few
measure_body-bodies-requires-clause-few c =
    chunk_few (take c.run_len-run.result c.loop-left.left.now) (run_chunk c.run_len-run.result c.loop-left.left.now c.loop-left.invariant.rising c.run_len-run.ensures)

pub loop-left-preserved : goal.loop-left-preserved
loop-left-preserved c =
    let long = length-take-le c.run_len-run.result c.loop-left.left.now c.run_len-run.ensures.within in
    chunks_more c.args.ids.now c.loop-left.left.now c.loop-left.bodies c.run_len-run.result c.measure_body-bodies.result.1 c.loop-left.invariant c.run_len-run.ensures
    c.measure_body-bodies.ensures.size (omega (arith, c.measure_body-bodies.ensures.small))

pub returns-clause-size : goal.returns-clause-size
returns-clause-size c =
    let none : length c.loop-left.left.now ≡ 0 = search rules in
    chunks_end c.args.ids.now c.loop-left.left.now c.loop-left.bodies c.loop-left.invariant none
