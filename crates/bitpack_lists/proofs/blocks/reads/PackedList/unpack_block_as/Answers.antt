-- The skip entry and the body of a block are within the bytes.
use Rattle.std.proofs.Common.{◌≡◌, ◌*◌, ℕ, ◌∙◌, arith}
use Rattle.bitpack_lists.specs.inner.Searching.{blocks_of, rest_of}
use Rattle.bitpack_lists.proofs.lemmas.opened.OpenedLists.{opened_room, opened_sound}
use Rattle.bitpack_lists.proofs.lemmas.blocks.RestValues.{body_room, narrow_entry}
use Rattle.bitpack_lists.proofs.blocks.reads.PackedList.unpack_block_as.Goals as goal

pub read-entry-requires : goal.read-entry-requires
read-entry-requires g c =
    let room = opened_room c.args.self.now g.met.P.BitPacker.some_lanes in
    omega (arith, room, c.requires.can.0)

pub unpack_body-requires-clause-width : goal.unpack_body-requires-clause-width
unpack_body-requires-clause-width g c =
    let list = c.args.self.now in
    let sound = opened_sound list g.met.P.BitPacker.some_lanes in
    rw c.read-entry.ensures.width (narrow_entry g.P.BitPacker.lanes (blocks_of list) (rest_of list) sound.entries c.args.block c.requires.can.0)

pub unpack_body-requires-clause-body : goal.unpack_body-requires-clause-body
unpack_body-requires-clause-body g c =
    let lanes : ℕ = g.P.BitPacker.lanes in
    let list = c.args.self.now in
    let entry = c.read-entry.ensures in
    let sound = opened_sound list g.met.P.BitPacker.some_lanes in
    let whole : c.BLOCK_LEN.result ≡ 32 * lanes = c.BLOCK_LEN.ensures ∙ g.met.P.BitPacker.block_len in
    rw (whole, entry.width, entry.offset) (body_room lanes (blocks_of list) (rest_of list) sound.entries c.args.block c.requires.can.0 sound.room)
