-- The least width of a block is at most 32.
use Rattle.std.proofs.Common.{slice_index}
use Rattle.bitpacking.proofs.ForCallers.{AreWords-from_slice}
use Rattle.bitpack_lists.proofs.lemmas.v1.OneEncoding1.{narrow_least}
use Rattle.bitpack_lists.proofs.blocks.measuring.width_of.Goals as goal

pub returns-then-index-widths-clause-narrow : goal.returns-then-index-widths-clause-narrow
returns-then-index-widths-clause-narrow g c =
    narrow_least c.args.kind c.args.block.now (slice_index c.args.widths.now c.args.index) (AreWords-from_slice c.args.block.now c.type_inv.block)
    (c.requires.cached c.if-index-widths.true)
