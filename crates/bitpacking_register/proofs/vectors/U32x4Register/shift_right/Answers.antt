-- Each lane shifted.
use Rattle.bitpacking_register.proofs.VectorLemmas.{first_words-shift_right}
use Rattle.bitpacking_register.proofs.vectors.U32x4Register.shift_right.Goals as goal

pub returns : goal.returns
returns c = first_words-shift_right 4 _ _ c.fits-self
