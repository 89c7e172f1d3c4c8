-- The numbers of one run more are counted.
use Rattle.std.proofs.Common.{◌+◌, ◌*◌, ap, arith}
use Rattle.bitpack_slices.proofs.lemmas.bodies.RunLaws.{rank_run, runs_done, runs_few}
use Rattle.bitpack_slices.proofs.lemmas.numbers.HalfLaws.{pairs_len}
use Rattle.bitpack_slices.proofs.chunk.runs.Runs.rank.Goals as goal
use Rattle.bitpack_slices.specs.Reads.{rank}
use Rattle.bitpack_slices.specs.Runs.{runs_from}
use Rattle.bitpack_slices.specs.Slices.{pairs_of}

pub loop-index-preserved : goal.loop-index-preserved
loop-index-preserved c =
    let split = ap (rank c.args.number) c.run-begin.ensures.first in
    let own = rank_run c.args.number c.run-begin.result.0 c.run-begin.result.1 (runs_from (c.loop-index.index + 1) c.args.self.bounds.now) c.run-begin.ensures.some in
    omega (arith, c.loop-index.invariant, c.min.ensures, c.min-in-loop-index.ensures)

pub overflow_add-below : goal.overflow_add-below
overflow_add-below c =
    let split = ap (rank c.args.number) c.run-begin.ensures.first in
    let own = rank_run c.args.number c.run-begin.result.0 c.run-begin.result.1 (runs_from (c.loop-index.index + 1) c.args.self.bounds.now) c.run-begin.ensures.some in
    let few = runs_few c.args.number c.args.self.bounds.now c.args.self.rising in
    omega (arith, c.loop-index.invariant, c.min.ensures, c.min-in-loop-index.ensures)

pub returns : goal.returns
returns c =
    let size = pairs_len c.args.self.bounds.now in
    let none = ap (rank c.args.number) (runs_done (2 * c.loop-index.index) (pairs_of c.args.self.bounds.now) (omega (arith, c.count-index-end.ensures.all, c.loop-index-test.false))) in
    omega (arith, c.loop-index.invariant)
