-- The bytes of the words.
use Rattle.bitpacking_register.proofs.VectorLemmas.{put_chunk-bytes}
use Rattle.bitpacking_register.proofs.vectors.U32x4Register.to_bytes.Goals as goal

pub returns : goal.returns
returns c = put_chunk-bytes 4 _ _ c.requires c.fits-self
