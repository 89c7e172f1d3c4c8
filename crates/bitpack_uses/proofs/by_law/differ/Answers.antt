-- The law `round_trips`: different blocks share no bytes, and a block has one list of bytes.
use Rattle.std.proofs.Common.{sym}
use Rattle.bitpacking.specs.declared.kind.Kind.TheVariants.{Plain}
use Rattle.bitpacking.proofs.ForCallers.{AreWords-from_slice}
use Rattle.bitpack_uses.proofs.by_law.differ.Goals as goal

pub returns : goal.returns
returns g c =
    let lanes = g.P.BitPacker.lanes in
    let first = c.compress-size.ensures.packed.bytes in
    let second = c.compress.ensures.packed.bytes in
    let compared = rw c.compress-size.ensures.size at c.are_other_bytes.ensures in (
      λ differ same. compared.other.0 differ (sym (c.round_trips.ensures.bytes lanes c.args.width Plain _ _ _ g.met.P.BitPacker.some_lanes
          compared.bytes compared.others first (rw (sym same) at second))),
      λ other. compared.other.1 (c.round_trips.ensures.shared lanes c.args.width Plain _ _ _ _
          (AreWords-from_slice _ c.type_inv.first) (AreWords-from_slice _ c.type_inv.second) other first second),
    )
