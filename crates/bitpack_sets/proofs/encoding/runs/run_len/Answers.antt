-- The positions are next to each other.
use Rattle.std.proofs.Common.{◌^◌, arith, pow_pos}
use Rattle.bitpack_sets.proofs.lemmas.written.CountedRuns.{run_found}
use Rattle.bitpack_sets.proofs.encoding.runs.run_len.Goals as goal

pub returns : goal.returns
returns c =
    let near = c.loop-high-test.false in
    run_found (2 ^ 32) (2 ^ c.args.bits) c.loop-high.low c.loop-high.high c.args.ids.now (pow_pos c.args.bits) c.requires.rising c.loop-high.invariant (omega arith)
