-- The position is in the run.
use Rattle.std.proofs.Common.{arith}
use Rattle.bitpack_slices.proofs.lemmas.bodies.RunLaws.{run_at, run_len}
use Rattle.bitpack_slices.proofs.chunk.runs.Runs.select.Goals as goal

pub overflow_add-result : goal.overflow_add-result
overflow_add-result c =
    let size = run_len c.args.self.bounds.now c.run_of-index.result.0 c.run.result.0 c.run.result.1 c.run.ensures.first in
    omega (arith, c.run_of-index.ensures.own, c.run.ensures.fits)

pub overflow_cast-result : goal.overflow_cast-result
overflow_cast-result c =
    let size = run_len c.args.self.bounds.now c.run_of-index.result.0 c.run.result.0 c.run.result.1 c.run.ensures.first in
    omega (arith, c.run_of-index.ensures.own, c.run.ensures.fits)

pub returns : goal.returns
returns c =
    let size = run_len c.args.self.bounds.now c.run_of-index.result.0 c.run.result.0 c.run.result.1 c.run.ensures.first in
    run_at c.args.self.bounds.now c.run_of-index.result.0 c.run_of-index.result.1 c.args.position c.run.result.0 c.run.result.1 c.run_of-index.ensures.from c.run.ensures.first
    (omega (arith, c.run_of-index.ensures.own))
