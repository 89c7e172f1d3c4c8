-- The law `equal_calls_leave_equal_buffers`, with what the calls ensure.
use Rattle.bitpacking.specs.declared.kind.Kind.TheVariants.{Plain}
use Rattle.bitpacking.proofs.ForCallers.{AreWords-from_slice}
use Rattle.bitpack_uses.proofs.by_law.unpacked_by_two.Goals as goal

pub returns-clause-same : goal.returns-clause-same
returns-clause-same g c =
    c.equal_calls_leave_equal_buffers.ensures.unpacked g.P.BitPacker.lanes c.args.width Plain _ _ _ _
    (AreWords-from_slice _ c.type_inv.values) (AreWords-from_slice _ c.type_inv.others)
    c.decompress.ensures.unpacked (rw (c.requires.format, c.requires.equal) at c.decompress-2.ensures.unpacked)
