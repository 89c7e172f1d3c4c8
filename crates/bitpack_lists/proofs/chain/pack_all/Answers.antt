-- Four bytes for each value are room for any chain.
use Rattle.std.proofs.Common.{◌*◌, ◌∙◌, ap, length}
use Rattle.bitpacking.proofs.ForCallers.{AreWords-from_slice}
use Rattle.bitpack_lists.proofs.lemmas.blocks.ChainLemmas.{chain_fits}
use Rattle.bitpack_lists.proofs.chain.pack_all.Goals as goal

pub pack_measured-requires : goal.pack_measured-requires
pack_measured-requires g c = record {
  blocks = c.requires.blocks;
  room =
      chain_fits g.P.BitPacker.lanes (length c.args.widths.now) (length c.args.out.now) c.args.kind c.args.values.now
      (AreWords-from_slice c.args.values.now c.type_inv.values)
      (c.requires.blocks ∙ ap (λ n. n * length c.args.widths.now) g.met.P.BitPacker.block_len) c.requires.room;
}
