-- The positions are next to each other.
use Rattle.std.proofs.Common.{◌^◌, arith}
use Rattle.bitpack_sets.proofs.ForCallers.{run_found}
use Rattle.bitpack_wide.proofs.encoding.order.word_len.Goals as goal

pub returns : goal.returns
returns c =
    let near = c.loop-high-test.false in
    run_found (2 ^ 64) (2 ^ 32) c.loop-high.low c.loop-high.high c.args.ids.now (omega arith) c.requires.rising c.loop-high.invariant (omega arith)
