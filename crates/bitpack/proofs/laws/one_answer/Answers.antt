-- The law is proved in AnswerLemmas.
use Rattle.bitpack.proofs.AnswerLemmas.{one_answer}
use Rattle.bitpack.proofs.laws.one_answer.Goals as goal

pub returns : goal.returns
returns c = one_answer
