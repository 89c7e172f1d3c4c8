-- The bit is in its word.
use Rattle.bitpack_slices.proofs.lemmas.bits.BitmapLaws.{test_is}
use Rattle.bitpack_slices.proofs.bitmap.single_bits.test_bit.Goals as goal

pub returns : goal.returns
returns c = test_is c.args.words.now c.args.i
