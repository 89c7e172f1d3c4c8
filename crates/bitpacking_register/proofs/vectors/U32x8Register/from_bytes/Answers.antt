-- The words of the bytes.
use Rattle.bitpacking_register.proofs.VectorLemmas.{first_words-loaded}
use Rattle.bitpacking_register.proofs.vectors.U32x8Register.from_bytes.Goals as goal

pub returns : goal.returns
returns c = first_words-loaded 8 _ c.requires c.type_inv.bytes
