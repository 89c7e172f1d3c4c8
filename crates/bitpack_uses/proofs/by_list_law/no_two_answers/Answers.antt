-- The law `one_answer`: any two answers are the same.
use Rattle.std.proofs.Common.{◌∙◌, sym}
use Rattle.bitpack_uses.proofs.by_list_law.no_two_answers.Goals as goal

pub returns : goal.returns
returns c = λ line answer other one two. let (_, _, only) = c.one_answer.ensures line in only answer one ∙ sym (only other two)
