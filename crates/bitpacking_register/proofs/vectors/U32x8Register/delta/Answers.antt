-- The differences of a vector, after the last lane of the one before.
use Rattle.std.proofs.Common.{lit≤}
use Rattle.bitpacking_register.proofs.VectorLemmas.{first_words-delta}
use Rattle.bitpacking_register.proofs.vectors.U32x8Register.delta.Goals as goal

pub returns : goal.returns
returns c = first_words-delta 8 _ _ (lit≤ tt) c.fits-current c.fits-previous
