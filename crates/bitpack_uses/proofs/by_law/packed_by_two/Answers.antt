-- The law `equal_calls_leave_equal_buffers`, with what the calls ensure.
use Rattle.bitpacking.specs.declared.kind.Kind.TheVariants.{Plain}
use Rattle.bitpacking.proofs.ForCallers.{AreBytes-from_slice}
use Rattle.bitpack_uses.proofs.by_law.packed_by_two.Goals as goal

pub returns-clause-same : goal.returns-clause-same
returns-clause-same g c =
    c.equal_calls_leave_equal_buffers.ensures.packed g.P.BitPacker.lanes c.args.width Plain _ _ _ _ g.met.P.BitPacker.some_lanes
    (AreBytes-from_slice _ c.type_inv.bytes) (AreBytes-from_slice _ c.type_inv.others)
    c.compress.ensures.packed (rw (c.requires.format, c.requires.equal) at c.compress-2.ensures.packed)
