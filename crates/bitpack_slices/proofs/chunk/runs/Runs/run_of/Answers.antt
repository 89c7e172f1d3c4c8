-- One run more is passed.
use Rattle.std.proofs.Common.{arith}
use Rattle.bitpack_slices.proofs.lemmas.bodies.RunLaws.{run_len, run_passed, runs_begin}
use Rattle.bitpack_slices.proofs.chunk.runs.Runs.run_of.Goals as goal

pub loop-left-init : goal.loop-left-init
loop-left-init c = runs_begin c.args.self.bounds.now c.args.position c.requires.within

pub loop-left-preserved : goal.loop-left-preserved
loop-left-preserved c =
    run_passed c.args.self.bounds.now c.loop-left.index c.loop-left.left c.args.position c.run-begin.result.0 c.run-begin.result.1 c.loop-left.invariant c.run-begin.ensures.first (omega (arith, c.if-left-end.false))

pub returns-then-left-end-clause-own : goal.returns-then-left-end-clause-own
returns-then-left-end-clause-own c =
    let size = run_len c.args.self.bounds.now c.loop-left.index c.run-begin.result.0 c.run-begin.result.1 c.run-begin.ensures.first in
    omega (arith, c.if-left-end.true)
