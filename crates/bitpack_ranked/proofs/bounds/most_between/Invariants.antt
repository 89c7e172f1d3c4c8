-- No count of the blocks so far is above the greatest.
use Rattle.bitpack_ranked.specs.inner.Walks.{IsMostCount}
use Rattle.bitpack_ranked.proofs.bounds.most_between.Given as goal

abbrev pub invariant-loop-block : goal.invariant-loop-block
invariant-loop-block g l = IsMostCount l.most (g.T.AsTerm.its_word l.term) l.first l.block
