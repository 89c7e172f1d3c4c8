-- The law `one_layout`: a bit is no other bit of a code.
use Rattle.std.proofs.Common.{◌∙◌, arith, sym}
use Rattle.bitpack_uses.proofs.by_law.no_bit_is_used_twice.Goals as goal

pub returns : goal.returns
returns c = λ bit code other j k lt in_block in_other in_code in_other_code at other_at.
    let (_, _, _, _, _, only) = c.one_layout.ensures.places 1 3 bit (omega arith) lt in
    let one = only code j in_block in_code at in
    let two = only other k in_other in_other_code other_at in
    (two.0 ∙ sym one.0, two.1 ∙ sym one.1)
