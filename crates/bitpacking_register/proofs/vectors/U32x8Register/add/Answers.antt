-- The sums of two vectors, lane by lane.
use Rattle.bitpacking_register.proofs.VectorLemmas.{first_words-add}
use Rattle.bitpacking_register.proofs.vectors.U32x8Register.add.Goals as goal

pub returns : goal.returns
returns c = first_words-add 8 _ _ c.fits-self c.fits-other
