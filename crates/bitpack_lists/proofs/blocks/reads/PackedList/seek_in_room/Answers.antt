-- The first value that reaches the target is in the first block whose last value does.
use Rattle.std.proofs.Common.{◌≡◌, ◌*◌, take, ◌∙◌, ap, arith}
use Rattle.std.proofs.lemmas.List.{length-take}
use Rattle.bitpack_lists.proofs.lemmas.opened.ReadParts.{in_order_from_kind, part_order, part_unpacked}
use Rattle.bitpack_lists.proofs.lemmas.opened.OpenedLists.{opened_search}
use Rattle.bitpack_lists.proofs.blocks.reads.PackedList.seek_in_room.Goals as goal

pub first_in_block-requires-clause-order : goal.first_in_block-requires-clause-order
first_in_block-requires-clause-order g c =
    let self = c.args.self.now in
    let some = g.met.P.BitPacker.some_lanes in
    let whole : c.BLOCK_LEN-len.result ≡ 32 * g.P.BitPacker.lanes = c.BLOCK_LEN-len.ensures ∙ g.met.P.BitPacker.block_len in
    let values = ap (λ len. take len c.unpack_block.new.values) c.BLOCK_LEN-len.ensures ∙ c.unpack_block.ensures.block in
    let number = c.args.block.number in
    let part = part_unpacked self some number c.BLOCK_LEN-len.result c.unpack_block.new.values c.requires.block.is.within whole values in (
      omega (arith, length-take c.BLOCK_LEN-len.result c.unpack_block.new.values, whole, g.met.P.BitPacker.few_lanes),
      part_order self some number c.BLOCK_LEN-len.result c.unpack_block.new.values part (in_order_from_kind self some c.requires.ordered),
    )

pub returns-clause-found : goal.returns-clause-found
returns-clause-found g c =
    let self = c.args.self.now in
    let block = c.requires.block in
    let whole : c.BLOCK_LEN-len.result ≡ 32 * g.P.BitPacker.lanes = c.BLOCK_LEN-len.ensures ∙ g.met.P.BitPacker.block_len in
    let values = ap (λ len. take len c.unpack_block.new.values) c.BLOCK_LEN-len.ensures ∙ c.unpack_block.ensures.block in
    opened_search self g.met.P.BitPacker.some_lanes c.requires.ordered c.args.target c.args.block.number block.before block.is.within block.enough
    c.BLOCK_LEN-len.result (take c.BLOCK_LEN-len.result c.unpack_block.new.values) c.first_in_block.result whole values c.first_in_block.ensures.found
