-- The bound of the block tells that none of its documents is among the best, or they are taken.
use Rattle.std.proofs.Common.{◌+◌, ◌*◌, length, map, take, get_or, arith}
use Rattle.bitpack_ranked.proofs.PastSteps.{past_full}
use Rattle.bitpack_ranked.proofs.WordSteps.{rest_bounds}
use Rattle.bitpack_ranked.proofs.ranking.Turn.pass_block.Goals as goal

pub returns-then-is_full-clause-best : goal.returns-then-is_full-clause-best
returns-then-is_full-clause-best g c =
    let turn = c.args.self.now in
    let f = g.T.AsTerm.its_word in
    let word = f turn.term.now in
    let classes = turn.classes.now in
    past_full (map f turn.before.now) word (map f turn.after.now) (g.met.T.AsTerm.is_word turn.term.now) classes turn.at_least (length c.args.found.now)
    (take c.args.len c.args.found.now) (128 * c.args.block) (128 * (c.args.block + 1)) (record { score = c.bound_of.result + c.args.rest; id = c.low-id.result })
    (omega arith)
    (λ i from upto within. (
      omega (arith, c.requires.low i from within, c.low-id.ensures),
      omega (
        arith,
        c.bound_of.ensures classes c.requires.bounds i from upto within,
        rest_bounds f g.met.T.AsTerm.is_word turn.after.now classes (get_or word.ids i 0),
        c.requires.rest,
      ),
    )) (c.is_full.ensures c.if-is_full.true) c.requires.best

pub returns-then-is_full-2-clause-best : goal.returns-then-is_full-2-clause-best
returns-then-is_full-2-clause-best g c =
    let turn = c.args.self.now in
    let f = g.T.AsTerm.its_word in
    let word = f turn.term.now in
    let classes = turn.classes.now in
    past_full (map f turn.before.now) word (map f turn.after.now) (g.met.T.AsTerm.is_word turn.term.now) classes turn.at_least (length c.args.found.now)
    (take c.args.len c.args.found.now) (128 * c.args.block) (128 * (c.args.block + 1)) (record { score = c.unpack_counts.result + c.args.rest; id = c.low-id.result })
    (omega arith)
    (λ i from upto within. (
      omega (arith, c.requires.low i from within, c.low-id.ensures),
      omega (
        arith,
        c.unpack_counts.ensures.most i (get_or classes (get_or word.ids i 0) 0) from upto within,
        rest_bounds f g.met.T.AsTerm.is_word turn.after.now classes (get_or word.ids i 0),
        c.requires.rest,
      ),
    )) (c.is_full-2.ensures c.if-is_full-2.true) c.requires.best
