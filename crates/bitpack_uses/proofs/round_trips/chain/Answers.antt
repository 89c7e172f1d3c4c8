-- The law `chains_read_back`, with what the calls ensure.
use Rattle.std.proofs.Common.{◌*◌, ap, length, take, arith, length-take-le}
use Rattle.std.proofs.lemmas.List.{take_all}
use Rattle.bitpacking.proofs.ForCallers.{AreWords-from_slice}
use Rattle.bitpack_uses.proofs.round_trips.chain.Goals as goal

pub returns-clause-same : goal.returns-clause-same
returns-clause-same g c =
    let words = AreWords-from_slice c.args.values.now c.type_inv.values in
    let others = AreWords-from_slice c.unpack_all.new.values c.type_inv.unpacked in
    let blocks = ap (λ n. g.P.BitPacker.BLOCK_LEN * n) c.pack_all-size.auto.widths in
    let values = take_all (g.P.BitPacker.BLOCK_LEN * length c.pack_all-size.new.widths) c.unpack_all.new.values (omega (arith, blocks)) in
    let bytes = take_all c.unpack_all.result (take c.pack_all-size.result c.pack_all-size.new.out)
    (omega (arith, length-take-le c.pack_all-size.result c.pack_all-size.new.out)) in
    c.chains_read_back.ensures g.P.BitPacker.lanes c.args.kind _ _ _ _ g.met.P.BitPacker.some_lanes words others
    c.pack_all-size.ensures.chain (rw (values, bytes) at c.unpack_all.ensures.chain)
