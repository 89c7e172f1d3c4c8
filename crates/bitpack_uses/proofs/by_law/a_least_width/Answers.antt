-- The law `one_least_width`: words have a least width.
use Rattle.bitpack_uses.proofs.by_law.a_least_width.Goals as goal

pub returns : goal.returns
returns c = λ codes are. let (width, narrow, least, _) = c.one_least_width.ensures.least codes are in (width, narrow, least)
