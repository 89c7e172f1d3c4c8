-- The numbers of one run more are counted.
use Rattle.std.proofs.Common.{◌*◌, List, ℕ, ap, arith, length}
use Rattle.bitpack_slices.proofs.lemmas.bodies.RunLaws.{run_len, runs_done, runs_most}
use Rattle.bitpack_slices.proofs.lemmas.numbers.HalfLaws.{pairs_len}
use Rattle.bitpack_slices.proofs.chunk.runs.Runs.len.Goals as goal
use Rattle.bitpack_slices.specs.Slices.{pairs_of}

pub loop-index-preserved : goal.loop-index-preserved
loop-index-preserved c =
    let size = run_len c.args.self.bounds.now c.loop-index.index c.run-begin.result.0 c.run-begin.result.1 c.run-begin.ensures.first in
    omega (arith, c.loop-index.invariant)

pub overflow_add-count : goal.overflow_add-count
overflow_add-count c =
    let size = run_len c.args.self.bounds.now c.loop-index.index c.run-begin.result.0 c.run-begin.result.1 c.run-begin.ensures.first in
    let most = runs_most c.args.self.bounds.now c.args.self.rising in
    omega (arith, c.loop-index.invariant)

pub returns-clause-few : goal.returns-clause-few
returns-clause-few c =
    let most = runs_most c.args.self.bounds.now c.args.self.rising in
    omega (arith, c.loop-index.invariant)

pub returns-clause-len : goal.returns-clause-len
returns-clause-len c =
    let size = pairs_len c.args.self.bounds.now in
    let none = ap (λ (l : List ℕ). length l) (runs_done (2 * c.loop-index.index) (pairs_of c.args.self.bounds.now) (omega (arith, c.count-index-end.ensures.all, c.loop-index-test.false))) in
    omega (arith, c.loop-index.invariant)
