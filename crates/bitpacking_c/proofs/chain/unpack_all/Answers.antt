use Rattle.std.proofs.Common.{◌≡◌, ◌*◌, length, refl, ◌∙◌}
use Rattle.bitpacking_c.proofs.ChainLengths.{too_few}
use Rattle.bitpacking_c.proofs.chain.unpack_all.Goals as goal

pub returns-then-widths-values-clause-unpacks : goal.returns-then-widths-values-clause-unpacks
returns-then-widths-values-clause-unpacks g c =
    let whole : c.BLOCK_LEN.result ≡ 32 * g.P.BitPacker.lanes = c.BLOCK_LEN.ensures ∙ g.met.P.BitPacker.block_len in
    let tested = c.in_ok-test_widths.ensures in
    let few = too_few g.P.BitPacker.lanes c.BLOCK_LEN.result (length c.args.values.now) (length c.args.widths.now)
    g.met.P.BitPacker.some_lanes whole c.if-widths-values.true in
    (refl, (tested.narrow, tested.bytes, few))
