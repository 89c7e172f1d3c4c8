-- The law `one_layout`: codes have one list of bytes.
use Rattle.std.proofs.Common.{◌∙◌, sym}
use Rattle.bitpacking.proofs.ForCallers.{AreBytes-from_slice, AreBytes-take}
use Rattle.bitpack_uses.proofs.by_law.the_only_bytes.Goals as goal

pub returns : goal.returns
returns g c = λ others are layout.
    let held = c.compress.ensures.packed.bytes in
    let (_, _, _, only) = c.one_layout.ensures.bytes g.P.BitPacker.lanes c.args.width c.args.block.now g.met.P.BitPacker.some_lanes held.code_count held.fits in
    only others are layout ∙ sym (only _ (AreBytes-take _ _ (AreBytes-from_slice _ c.type_inv.bytes)) held)
