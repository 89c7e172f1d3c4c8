-- The differences of two vectors, lane by lane.
use Rattle.bitpacking_register.proofs.VectorLemmas.{first_words-sub}
use Rattle.bitpacking_register.proofs.vectors.U32x8Register.sub.Goals as goal

pub returns : goal.returns
returns c = first_words-sub 8 _ _ c.fits-self c.fits-other
