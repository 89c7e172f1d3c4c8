-- One byte more.
use Rattle.std.proofs.Common.{◌-◌, arith, get_or, leb}
use Rattle.bitpack_slices.proofs.lemmas.bodies.BoundLaws.{run_few}
use Rattle.bitpack_slices.proofs.lemmas.slices.EdgeLaws.{falls_done, falls_more}
use Rattle.bitpack_slices.proofs.slice.testing.count_falls.Goals as goal

pub overflow_add-count : goal.overflow_add-count
overflow_add-count c =
    let one = run_few (leb (get_or c.args.window.now c.loop-i.i 0) (get_or c.args.window.now (c.loop-i.i - 1) 0)) in
    let few = c.loop-i.invariant.few in
    omega arith

pub loop-i-preserved : goal.loop-i-preserved
loop-i-preserved c =
    let one = run_few (leb (get_or c.args.window.now c.loop-i.i 0) (get_or c.args.window.now (c.loop-i.i - 1) 0)) in
    let more = falls_more c.args.window.now c.loop-i.i (omega arith) (omega arith) in
    record { few = omega arith; counted = omega arith }

pub returns : goal.returns
returns c = let none = falls_done (get_or c.args.window.now (c.loop-i.i - 1) 0) c.args.window.now c.loop-i.i (omega arith) in omega arith
