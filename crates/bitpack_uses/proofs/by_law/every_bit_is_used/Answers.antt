-- The law `one_layout`: each bit is one bit of one code.
use Rattle.std.proofs.Common.{arith}
use Rattle.bitpack_uses.proofs.by_law.every_bit_is_used.Goals as goal

pub returns : goal.returns
returns c = λ bit lt. let (code, j, in_block, in_code, at, _) = c.one_layout.ensures.places 1 3 bit (omega arith) lt in (code, j, in_block, in_code, at)
