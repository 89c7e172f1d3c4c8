-- The law `one_text`: codes that fit a smaller width are at a loose one.
use Rattle.std.proofs.Common.{arith}
use Rattle.bitpack_uses.proofs.by_list_law.a_width_too_great.Goals as goal

pub returns : goal.returns
returns c = λ codes bytes layout fits. (c.one_text.ensures.loose 4 7 codes bytes layout).1 (6, omega arith, fits)
