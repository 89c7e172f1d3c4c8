-- The law `round_trips`, with what the calls ensure.
use Rattle.std.proofs.Common.{◌*◌, arith}
use Rattle.std.proofs.lemmas.List.{take_all}
use Rattle.bitpacking.specs.declared.kind.Kind.TheVariants.{Plain}
use Rattle.bitpacking.proofs.ForCallers.{AreWords-from_slice}
use Rattle.bitpack_uses.proofs.round_trips.block.Goals as goal

pub returns-clause-same : goal.returns-clause-same
returns-clause-same g c =
    let words = AreWords-from_slice c.args.values.now c.type_inv.values in
    let others = AreWords-from_slice c.decompress.new.decompressed c.type_inv.unpacked in
    let whole = take_all (32 * g.P.BitPacker.lanes) c.decompress.new.decompressed (omega (arith, g.met.P.BitPacker.block_len)) in
    c.round_trips.ensures.block g.P.BitPacker.lanes c.num_bits-width.result Plain _ _ _ words others
    c.compress.ensures.packed.bytes (rw whole at c.decompress.ensures.unpacked.block)
