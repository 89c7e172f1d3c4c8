-- The words are combined.
use Rattle.std.proofs.Common.{◌∷◌, []}
use Rattle.bitpack_slices.proofs.lemmas.numbers.AnswerLaws.{those_same}
use Rattle.bitpack_slices.proofs.lemmas.bits.CombineLaws.{four_combined}
use Rattle.bitpack_slices.proofs.body.mixing.mix_bits.Goals as goal
use Rattle.bitpack_slices.specs.Bitmaps.{has_bit}
use Rattle.bitpack_slices.specs.Operations.{apply}

pub returns : goal.returns
returns c =
    let x = c.args.x in
    let y = c.args.y.now in
    those_same 256 (has_bit (c.combined_word.result ∷ c.combined_word-2.result ∷ c.combined_word-3.result ∷ c.combined_word-4.result ∷ [])) (λ i. apply c.args.operation (has_bit x i) (has_bit y i))
    (four_combined c.args.operation x y c.combined_word.result c.combined_word-2.result c.combined_word-3.result c.combined_word-4.result c.combined_word.ensures c.combined_word-2.ensures c.combined_word-3.ensures c.combined_word-4.ensures)
