-- Bits that are combined with cleared ones are cleared.
use Rattle.bitpack_queries.proofs.lemmas.many.FoldLaws.{and_cleared}
use Rattle.bitpack_queries.proofs.folding.clear_highs.Goals as goal

pub returns-clause-own : goal.returns-clause-own
returns-clause-own c x small member = and_cleared _ _ _ (c.combine.ensures.own x small member) (c.clear.ensures x small member)
