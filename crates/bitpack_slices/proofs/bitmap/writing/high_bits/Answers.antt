-- Four words have a bit for each high byte.
use Rattle.bitpack_slices.proofs.lemmas.bits.HighLaws.{four_highs}
use Rattle.bitpack_slices.proofs.bitmap.writing.high_bits.Goals as goal

pub returns : goal.returns
returns c =
    four_highs c.args.words.now c.high_word.result c.high_word-2.result c.high_word-3.result c.high_word-4.result c.high_word.ensures c.high_word-2.ensures c.high_word-3.ensures
    c.high_word-4.ensures
