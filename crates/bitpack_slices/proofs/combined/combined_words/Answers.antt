-- Word by word.
use Rattle.bitpack_slices.proofs.lemmas.bits.CombineLaws.{four_combined}
use Rattle.bitpack_slices.proofs.combined.combined_words.Goals as goal

pub returns : goal.returns
returns c i small =
    four_combined c.args.operation c.args.a c.args.b c.combined_word.result c.combined_word-2.result c.combined_word-3.result c.combined_word-4.result
    c.combined_word.ensures c.combined_word-2.ensures c.combined_word-3.ensures c.combined_word-4.ensures i small
