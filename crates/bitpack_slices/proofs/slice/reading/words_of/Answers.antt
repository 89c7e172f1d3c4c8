-- Four words have the bits of 32 bytes.
use Rattle.bitpack_slices.proofs.lemmas.bits.BitmapLaws.{four_words}
use Rattle.bitpack_slices.proofs.lemmas.bits.CountLaws.{bytes_are}
use Rattle.bitpack_slices.proofs.slice.reading.words_of.Goals as goal

pub returns : goal.returns
returns c i small =
    four_words c.args.bytes.now c.word_at.result c.word_at-2.result c.word_at-3.result c.word_at-4.result
    c.word_at.ensures c.word_at-2.ensures c.word_at-3.ensures c.word_at-4.ensures
    (bytes_are c.args.bytes.now (λ k. (c.type_inv.bytes k).fits)) c.requires i small
