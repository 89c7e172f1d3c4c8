-- The law `one_text`: a loose width is above one that the codes fit.
use Rattle.bitpack_uses.proofs.by_list_law.a_smaller_width.Goals as goal

pub returns : goal.returns
returns c = λ codes bytes layout loose. (c.one_text.ensures.loose 4 7 codes bytes layout).0 loose
