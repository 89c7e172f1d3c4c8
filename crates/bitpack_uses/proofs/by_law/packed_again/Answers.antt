-- The law `round_trips`, with what the calls ensure.
use Rattle.std.proofs.Common.{◌*◌, arith}
use Rattle.std.proofs.lemmas.List.{take_all}
use Rattle.bitpacking.specs.declared.kind.Kind.TheVariants.{Plain}
use Rattle.bitpacking.specs.Layout.{size}
use Rattle.bitpacking.proofs.ForCallers.{AreBytes-from_slice}
use Rattle.bitpack_uses.proofs.by_law.packed_again.Goals as goal

pub returns : goal.returns
returns g c =
    let lanes = g.P.BitPacker.lanes in
    let block = take_all (32 * lanes) c.decompress.new.decompressed (omega (arith, g.met.P.BitPacker.block_len)) in
    let bytes = take_all (size lanes c.args.width) c.args.bytes.now (omega arith) in
    let again = take_all (size lanes c.args.width) c.compress.new.compressed (omega arith) in
    c.round_trips.ensures.bytes lanes c.args.width Plain _ _ _ g.met.P.BitPacker.some_lanes
    (AreBytes-from_slice _ c.type_inv.bytes) (AreBytes-from_slice _ c.type_inv.again)
    (rw (block, bytes) at c.decompress.ensures.unpacked.block) (rw again at c.compress.ensures.packed.bytes)
