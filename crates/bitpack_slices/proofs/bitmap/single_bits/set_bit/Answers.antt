-- One bit of one word is set.
use Rattle.bitpack_slices.proofs.lemmas.bits.BitmapLaws.{set_is}
use Rattle.bitpack_slices.proofs.bitmap.single_bits.set_bit.Goals as goal

pub returns : goal.returns
returns c k = set_is c.args.words.now c.args.i k c.requires.within
