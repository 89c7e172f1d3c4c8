-- Word by word.
use Rattle.std.proofs.Common.{◌&&◌, ◌∙◌, Bool, ap, eqb, get_or, not}
use Rattle.std.specs.Int.{bit_at}
use Rattle.bitpack_slices.proofs.lemmas.bits.BeginLaws.{four_begin}
use Rattle.bitpack_slices.proofs.chunk.bounds.begins.Goals as goal
use Rattle.bitpack_slices.specs.Bitmaps.{has_bit}

pub returns-clause-first : goal.returns-clause-first
unfolding has_bit
returns-clause-first c = c.begins_in.ensures.first

pub returns-clause-later : goal.returns-clause-later
returns-clause-later c = λ i small.
    let bits = c.args.bits.now in
    four_begin bits c.args.before c.begins_in.result c.begins_in-2.result c.begins_in-3.result c.begins_in-4.result
    (c.begins_in.ensures.first, c.begins_in.ensures.later)
    (c.begins_in-2.ensures.first ∙ ap (λ (b : Bool). eqb (bit_at (get_or bits 1 0) 0) 1 && not b) c.test_bit.ensures, c.begins_in-2.ensures.later)
    (c.begins_in-3.ensures.first ∙ ap (λ (b : Bool). eqb (bit_at (get_or bits 2 0) 0) 1 && not b) c.test_bit-2.ensures, c.begins_in-3.ensures.later)
    (c.begins_in-4.ensures.first ∙ ap (λ (b : Bool). eqb (bit_at (get_or bits 3 0) 0) 1 && not b) c.test_bit-3.ensures, c.begins_in-4.ensures.later)
    i small
