-- Words have the bits of their bytes.
use Rattle.std.proofs.Common.{arith}
use Rattle.bitpack_slices.proofs.ForCallers.{bytes_are}
use Rattle.bitpack_roaring.proofs.BitLaws.{loaded_bit}
use Rattle.bitpack_roaring.proofs.bits.load_bits.Goals as goal

pub returns : goal.returns
returns c x small =
    loaded_bit c.args.body.now c.loop-index.words (bytes_are c.args.body.now (λ k. (c.type_inv.body k).fits)) c.requires
    (λ k lt. c.loop-index.invariant.loaded k (omega (arith, c.loop-index-test.false))) x small
