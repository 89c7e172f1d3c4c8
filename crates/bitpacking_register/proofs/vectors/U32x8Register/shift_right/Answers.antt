-- Each lane shifted.
use Rattle.bitpacking_register.proofs.VectorLemmas.{first_words-shift_right}
use Rattle.bitpacking_register.proofs.vectors.U32x8Register.shift_right.Goals as goal

pub returns : goal.returns
returns c = first_words-shift_right 8 _ _ c.fits-self
