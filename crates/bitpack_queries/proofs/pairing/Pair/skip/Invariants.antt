use Rattle.bitpack_queries.specs.Pairs.{positions_left}
use Rattle.bitpack_queries.proofs.lemmas.two.AnswerLaws.{Skips}
use Rattle.bitpack_queries.proofs.pairing.Pair.skip.Given as goal

abbrev pub invariant-loop-self : goal.invariant-loop-self
invariant-loop-self l = Skips l.initial.self l.self

abbrev pub decreases-loop-self : goal.decreases-loop-self
decreases-loop-self l = positions_left l.self
