use Rattle.std.proofs.Common.{◌≡◌, ◌*◌, length, refl, ◌∙◌}
use Rattle.bitpacking_c.proofs.ChainLengths.{left_over, other_count}
use Rattle.bitpacking_c.proofs.chain.pack_all.Goals as goal

pub returns-then-values-len-ne0-clause-packs : goal.returns-then-values-len-ne0-clause-packs
returns-then-values-len-ne0-clause-packs g c =
    let whole : c.BLOCK_LEN-len.result ≡ 32 * g.P.BitPacker.lanes = c.BLOCK_LEN-len.ensures ∙ g.met.P.BitPacker.block_len in (
      refl,
      refl,
      left_over g.P.BitPacker.lanes c.BLOCK_LEN-len.result (length c.args.values.now) (length c.args.widths.now)
          g.met.P.BitPacker.some_lanes whole c.if-values-len-ne0.true,
    )

pub returns-then-values-len-clause-packs : goal.returns-then-values-len-clause-packs
returns-then-values-len-clause-packs g c =
    let whole : c.BLOCK_LEN-len.result ≡ 32 * g.P.BitPacker.lanes = c.BLOCK_LEN-len.ensures ∙ g.met.P.BitPacker.block_len in (
      refl,
      refl,
      other_count g.P.BitPacker.lanes c.BLOCK_LEN-len.result (length c.args.values.now) (length c.args.widths.now)
          g.met.P.BitPacker.some_lanes whole c.if-values-len.true,
    )
