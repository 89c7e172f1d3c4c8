-- The bits are counted by words.
use Rattle.std.proofs.Common.{◌∙◌, ap, length}
use Rattle.bitpack_roaring.proofs.BitLaws.{bits_are}
use Rattle.bitpack_roaring.proofs.testing.count_bits.Goals as goal

pub returns : goal.returns
returns c = c.count_words.ensures.count ∙ ap length (bits_are c.args.body.now c.load_bits.new.words c.load_bits.ensures)
