-- The words are combined.
use Rattle.std.proofs.Common.{Bool, ◌∙◌, ap}
use Rattle.bitpack_slices.proofs.lemmas.numbers.AnswerLaws.{those_same}
use Rattle.bitpack_slices.proofs.slice.selecting.combined_bits.Goals as goal
use Rattle.bitpack_slices.specs.Bitmaps.{has_bit}
use Rattle.bitpack_slices.specs.Operations.{apply}
use Rattle.bitpack_slices.specs.Reads.{has}
use Rattle.bitpack_slices.specs.Selections.{numbers_at}

pub returns : goal.returns
returns c =
    let a = c.args.a in
    let b = c.args.b in
    those_same 256 (has_bit c.combined_words.result) (λ x. apply c.args.operation (has x (numbers_at a)) (has x (numbers_at b))) (λ i small.
    c.combined_words.ensures i small
    ∙ ap (λ (t : Bool). apply c.args.operation t (has_bit c.bits-2.result i)) (c.bits.ensures i small)
    ∙ ap (apply c.args.operation (has i (numbers_at a))) (c.bits-2.ensures i small))
