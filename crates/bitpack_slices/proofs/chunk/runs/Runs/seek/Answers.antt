-- The run whose end is above the number has the first that is not below.
use Rattle.std.proofs.Common.{◌*◌, ap, arith}
use Rattle.bitpack_slices.proofs.lemmas.bodies.RunLaws.{runs_done, runs_few}
use Rattle.bitpack_slices.proofs.lemmas.bodies.SoughtRuns.{all_below, below_more, run_sought}
use Rattle.bitpack_slices.proofs.lemmas.numbers.HalfLaws.{pairs_len}
use Rattle.bitpack_slices.proofs.chunk.runs.Runs.seek.Goals as goal
use Rattle.bitpack_slices.specs.Reads.{rank}
use Rattle.bitpack_slices.specs.Slices.{pairs_of}

pub loop-index-preserved : goal.loop-index-preserved
loop-index-preserved c = below_more c.args.number c.loop-index.below c.loop-index.index c.run-begin.result.0 c.run-begin.result.1 c.args.self.bounds.now c.loop-index.invariant c.run-begin.ensures.first c.run-begin.ensures.some
    (omega (arith, c.if-number-end.false))

pub overflow_add-result : goal.overflow_add-result
overflow_add-result c =
    let few = runs_few c.args.number c.args.self.bounds.now c.args.self.rising in
    let fits = c.run-begin.ensures.fits in
    omega (arith, c.loop-index.invariant.ranked, c.max-first.ensures)

pub overflow_add-below : goal.overflow_add-below
overflow_add-below c =
    let few = runs_few c.args.number c.args.self.bounds.now c.args.self.rising in
    let fits = c.run-begin.ensures.fits in
    omega (arith, c.loop-index.invariant.ranked)

pub returns-then-number-end-clause-rank : goal.returns-then-number-end-clause-rank
returns-then-number-end-clause-rank c =
    (run_sought c.args.number c.loop-index.below c.loop-index.index c.run-begin.result.0 c.run-begin.result.1 c.max-first.result c.args.self.bounds.now c.args.self.rising c.loop-index.invariant c.run-begin.ensures.first
    c.run-begin.ensures.some c.if-number-end.true c.max-first.ensures).0

pub returns-then-number-end-clause-first : goal.returns-then-number-end-clause-first
returns-then-number-end-clause-first c =
    (run_sought c.args.number c.loop-index.below c.loop-index.index c.run-begin.result.0 c.run-begin.result.1 c.max-first.result c.args.self.bounds.now c.args.self.rising c.loop-index.invariant c.run-begin.ensures.first
    c.run-begin.ensures.some c.if-number-end.true c.max-first.ensures).1

pub returns-clause-rank : goal.returns-clause-rank
returns-clause-rank c =
    let size = pairs_len c.args.self.bounds.now in
    let none = ap (rank c.args.number) (runs_done (2 * c.loop-index.index) (pairs_of c.args.self.bounds.now) (omega (arith, c.count-index-end.ensures.all, c.loop-index-test.false))) in
    omega (arith, c.loop-index.invariant.ranked)

pub returns-clause-first : goal.returns-clause-first
returns-clause-first c =
    let size = pairs_len c.args.self.bounds.now in
    let none = runs_done (2 * c.loop-index.index) (pairs_of c.args.self.bounds.now) (omega (arith, c.count-index-end.ensures.all, c.loop-index-test.false)) in
    all_below c.args.number c.loop-index.below c.loop-index.index c.args.self.bounds.now c.loop-index.invariant none
