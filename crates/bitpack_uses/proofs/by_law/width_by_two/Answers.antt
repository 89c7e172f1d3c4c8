-- The law `one_least_width`: two least widths of the same codes are equal.
use Rattle.std.proofs.Common.{◌∙◌, sym}
use Rattle.bitpacking.proofs.ForCallers.{AreWords-from_slice}
use Rattle.bitpack_uses.proofs.by_law.width_by_two.Goals as goal

pub returns-clause-same : goal.returns-clause-same
returns-clause-same g c =
    let (_, _, _, only) = c.one_least_width.ensures.least _ (AreWords-from_slice _ c.type_inv.block) in
    only _ c.num_bits-2.ensures.width ∙ sym (only _ c.num_bits.ensures.width)
