-- The bits of 32 bytes are unpacked as four words.
use Rattle.std.proofs.Common.{List, ℕ, ◌+◌, ◌++◌, ◌∙◌, ap, arith, map, sym, take}
use Rattle.std.proofs.lemmas.Bool.{cond_above, cond_below}
use Rattle.bitpack_slices.proofs.lemmas.bits.BitmapLaws.{those_few}
use Rattle.bitpack_slices.proofs.lemmas.bits.CountLaws.{some_numbers}
use Rattle.bitpack_slices.proofs.lemmas.bodies.LoadLaws.{those_are}
use Rattle.bitpack_slices.proofs.lemmas.bits.OnesLaws.{ones_rise}
use Rattle.bitpack_slices.proofs.slice.reading.unpack_slice.Goals as goal
use Rattle.bitpack_slices.specs.Bitmaps.{has_bit}
use Rattle.bitpack_slices.specs.Slices.{number_of, ones_from}

pub words_of-requires : goal.words_of-requires
words_of-requires c = c.requires.size ∙ sym (cond_above c.args.count 32 _ _ _ c.if-count-lt32.false (cond_below c.args.count 256 32 0 c.if-count-lt256.true))

pub returns-then-count-lt256-clause-few : goal.returns-then-count-lt256-clause-few
returns-then-count-lt256-clause-few c = let few = those_few 256 (has_bit c.words_of.result) in omega arith

pub returns-then-count-lt256-clause-values : goal.returns-then-count-lt256-clause-values
returns-then-count-lt256-clause-values c =
    let bytes = c.args.bytes.now in
    c.unpack_many.ensures.values
    ∙ ap (λ (l : List ℕ). take c.args.at c.args.out.now ++ map (λ i. c.args.base + i) l)
    (those_are (has_bit c.words_of.result) 256 (ones_from (number_of bytes) 0 256) (ones_rise (number_of bytes) 0 256) c.words_of.ensures
    ∙ sym (some_numbers c.args.count bytes c.if-count-lt32.false c.if-count-lt256.true))
