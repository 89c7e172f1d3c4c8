-- The skip entries are within the bytes.
use Rattle.std.proofs.Common.{arith}
use Rattle.bitpack_lists.proofs.lemmas.opened.OpenedLists.{opened_room}
use Rattle.bitpack_lists.proofs.blocks.reads.PackedList.skip_key.Goals as goal

pub read_one-requires : goal.read_one-requires
read_one-requires g c =
    let room = opened_room c.args.self.now g.met.P.BitPacker.some_lanes in
    omega (arith, room, c.requires)
