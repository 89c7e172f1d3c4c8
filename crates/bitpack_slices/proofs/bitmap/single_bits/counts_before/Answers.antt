-- One word more at a time.
use Rattle.std.proofs.Common.{refl}
use Rattle.bitpack_slices.proofs.lemmas.bits.BitmapLaws.{counted_before}
use Rattle.bitpack_slices.proofs.bitmap.single_bits.counts_before.Goals as goal

pub returns : goal.returns
returns c = counted_before c.args.words.now _ _ _ (λ k. (c.type_inv.words k).fits) refl refl refl
