-- The running sums of a vector, after the last lane of the one before.
use Rattle.std.proofs.Common.{lit≤}
use Rattle.bitpacking_register.proofs.VectorLemmas.{first_words-integral, sums_of_four-is}
use Rattle.bitpacking_register.proofs.vectors.U32x4Register.integrate.Goals as goal

pub returns : goal.returns
returns c = first_words-integral 4 _ _ _ (lit≤ tt) (sums_of_four-is _ c.fits-delta.0) c.fits-previous c.fits-delta
