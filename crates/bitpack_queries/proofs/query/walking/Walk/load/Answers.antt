use Rattle.bitpack_queries.proofs.lemmas.trees.FromKeys.{own_loaded}
use Rattle.bitpack_queries.proofs.lemmas.two.AnswerLaws.{listed_rise}
use Rattle.bitpack_queries.proofs.query.walking.Walk.load.Goals as goal

pub load_answer-requires-clause-highs : goal.load_answer-requires-clause-highs
load_answer-requires-clause-highs g c = listed_rise _ _ c.unpack_bits-count.ensures.values

pub returns-clause-loaded : goal.returns-clause-loaded
returns-clause-loaded g c = λ x small own. own_loaded _ _ _ _ x c.unpack_bits-count.ensures.values (c.all_highs-self.ensures x own) (c.load_answer.ensures x own)
