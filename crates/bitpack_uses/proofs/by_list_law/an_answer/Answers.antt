-- The law `one_answer`: a line has an answer.
use Rattle.bitpack_uses.proofs.by_list_law.an_answer.Goals as goal

pub returns : goal.returns
returns c = λ line. let (answer, is, _) = c.one_answer.ensures line in (answer, is)
