-- A run has its own boundaries, or ends with the last number.
use Rattle.std.proofs.Common.{◌+◌, ◌*◌, arith}
use Rattle.bitpack_slices.proofs.lemmas.bodies.RunLaws.{run_ended, run_open}
use Rattle.bitpack_slices.proofs.lemmas.numbers.HalfLaws.{pairs_len}
use Rattle.bitpack_slices.proofs.lemmas.numbers.QueryIds.{rising_lt}
use Rattle.bitpack_slices.proofs.chunk.runs.Runs.run.Goals as goal
use Rattle.bitpack_slices.specs.Slices.{pairs_of}

pub returns-then-index-self-clause-some : goal.returns-then-index-self-clause-some
returns-then-index-self-clause-some c =
    let size = pairs_len c.args.self.bounds.now in
    let less = rising_lt 0 65536 (2 * c.args.index) (2 * c.args.index + 1) (pairs_of c.args.self.bounds.now) c.args.self.rising (omega arith) (omega (arith, c.if-index-self.true)) in
    omega (arith, c.number_at-begin.ensures, c.number_at.ensures)

pub returns-then-index-self-clause-first : goal.returns-then-index-self-clause-first
returns-then-index-self-clause-first c =
    let size = pairs_len c.args.self.bounds.now in
    run_ended c.args.index c.number_at-begin.result c.number_at.result (pairs_of c.args.self.bounds.now) (omega (arith, c.if-index-self.true)) c.number_at-begin.ensures c.number_at.ensures

pub returns-clause-first : goal.returns-clause-first
returns-clause-first c =
    let size = pairs_len c.args.self.bounds.now in
    run_open c.args.index c.number_at-begin.result (pairs_of c.args.self.bounds.now) (omega (arith, c.requires.within)) (omega (arith, c.if-index-self.false)) c.number_at-begin.ensures
