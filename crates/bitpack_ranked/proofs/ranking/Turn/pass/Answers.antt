-- All blocks have all positions.
use Rattle.std.proofs.Common.{◌*◌, length, map, take, ap, arith}
use Rattle.bitpack_ranked.proofs.PastSteps.{past_whole}
use Rattle.bitpack_ranked.proofs.ranking.Turn.pass.Goals as goal

pub returns-clause-best : goal.returns-clause-best
returns-clause-best g c =
    let turn = c.args.self.now in
    let f = g.T.AsTerm.its_word in
    let (few, low, best) = c.loop-block.invariant in
    past_whole (map f turn.before.now) (f turn.term.now) (map f turn.after.now) (g.met.T.AsTerm.is_word turn.term.now) turn.classes.now turn.at_least
    (length c.args.found.now) (take c.loop-block.len c.loop-block.found) (128 * c.loop-block.block)
    (omega (arith, c.loop-block-test.false, c.div_ceil-block-end.ensures, c.len.ensures, ap length c.ids.ensures)) (rw c.loop-block.auto.found at best)
