-- The bound of the block, or a bound of all classes.
use Rattle.std.proofs.Common.{get_or}
use Rattle.bitpack_ranked.proofs.bounding.bound_of.Goals as goal

pub returns-then-block-bounds : goal.returns-then-block-bounds
returns-then-block-bounds g c = λ classes are. are c.args.block c.if-block-bounds.true

pub returns-else-block-bounds : goal.returns-else-block-bounds
returns-else-block-bounds g c = λ classes are k from upto within.
    let word = g.T.AsTerm.its_word c.args.term.now in
    c.most_of.ensures k (get_or classes (get_or word.ids k 0) 0) from upto within
