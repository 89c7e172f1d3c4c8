-- One slice more.
use Rattle.std.proofs.Common.{arith, get_or, ltb}
use Rattle.bitpack_slices.proofs.lemmas.bodies.BoundLaws.{run_few}
use Rattle.bitpack_slices.proofs.lemmas.bodies.PartialLaws.{partial_done, partial_more}
use Rattle.bitpack_slices.proofs.chunk.bounds.count_partial.Goals as goal

pub overflow_add-count : goal.overflow_add-count
overflow_add-count c =
    let one = run_few (ltb (get_or c.args.counts.now c.loop-less.less-index 0) 255) in
    let few = c.loop-less.invariant.few in
    omega arith

pub loop-less-preserved : goal.loop-less-preserved
loop-less-preserved c =
    let one = run_few (ltb (get_or c.args.counts.now c.loop-less.less-index 0) 255) in
    let more = partial_more c.loop-less.less-index c.args.counts.now c.loop-less-test.true in
    record { few = omega arith; counted = omega arith }

pub returns : goal.returns
returns c = let none = partial_done c.loop-less.less-index c.args.counts.now c.loop-less-test.false in omega arith
