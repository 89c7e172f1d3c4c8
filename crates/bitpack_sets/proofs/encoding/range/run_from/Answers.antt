-- The ids of the chunk of an id are up to where the next chunk begins.
use Rattle.std.proofs.Common.{arith}
use Rattle.bitpack_sets.proofs.lemmas.written.RangeFilled.{run_is}
use Rattle.bitpack_sets.proofs.encoding.range.run_from.Goals as goal

pub returns-clause-run : goal.returns-clause-run
returns-clause-run c =
    let run = c.min.ensures in
    run_is c.args.id c.args.left c.min.result (omega (arith, c.requires.some)) (omega arith) (omega arith) (λ less. omega arith)
