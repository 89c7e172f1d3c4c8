-- The bits of two bytes, those of two others, and those before.
use Rattle.std.proofs.Common.{Bool, ℕ, ◌||◌, ◌∙◌, ap, eqb, get_or}
use Rattle.bitpack_slices.proofs.lemmas.bits.BitRows.{words_set}
use Rattle.bitpack_slices.proofs.lemmas.bytes.EqualLaws.{has_pairs}
use Rattle.bitpack_slices.proofs.bitmap.single_bits.set_four.Goals as goal
use Rattle.bitpack_slices.specs.Bitmaps.{has_bit}

pub returns : goal.returns
returns c = λ i small.
    let bytes = c.args.bytes.now in
    let bits = c.args.bits.now in
    let o : ℕ → Bool = λ k. eqb i (get_or bytes k 0) in
    words_set bits c.combined_words-first.result c.combined_words-last.result c.told-bits i small
    ∙ ap (λ (b : Bool). has_bit bits i || (b || has_bit c.combined_words-last.result i))
    (c.combined_words-first.ensures i small ∙ ap (λ (b : Bool). b || has_bit c.bit_of-2.result i) (c.bit_of.ensures i small) ∙ ap (λ (b : Bool). o 0 || b) (c.bit_of-2.ensures i small))
    ∙ ap (λ (b : Bool). has_bit bits i || ((o 0 || o 1) || b))
    (c.combined_words-last.ensures i small ∙ ap (λ (b : Bool). b || has_bit c.bit_of-4.result i) (c.bit_of-3.ensures i small) ∙ ap (λ (b : Bool). o 2 || b) (c.bit_of-4.ensures i small))
    ∙ ap (λ (b : Bool). has_bit bits i || b) (has_pairs i bytes c.requires)
