-- The words of the slice.
use Rattle.bitpacking_register.proofs.VectorLemmas.{first_words-chunk}
use Rattle.bitpacking_register.proofs.vectors.U32x4Register.from_words.Goals as goal

pub returns : goal.returns
returns c = first_words-chunk 4 _ c.requires c.type_inv.values
