-- Each lane shifted.
use Rattle.bitpacking_register.proofs.VectorLemmas.{first_words-shift_left}
use Rattle.bitpacking_register.proofs.vectors.U32x4Register.shift_left.Goals as goal

pub returns : goal.returns
returns c = first_words-shift_left 4 _ _ c.fits-self
