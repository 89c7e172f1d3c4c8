-- The table is tested by computing.
use Rattle.std.proofs.Common.{refl}
use Rattle.bitpack_slices.proofs.lemmas.bits.BitRows.{bits_right}
use Rattle.bitpack_slices.proofs.bitmap.ones.rows.Goals as goal

pub returns : goal.returns
returns c = bits_right _ refl refl
