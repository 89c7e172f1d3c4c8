-- The law `one_text`: bytes encode at most one list.
use Rattle.std.proofs.Common.{arith}
use Rattle.bitpack_uses.proofs.by_list_law.no_two_lists.Goals as goal

pub returns : goal.returns
returns c = λ kind other_kind values others encoding small one other. c.one_text.ensures.list2 4 kind other_kind values others encoding (omega arith) small one other
