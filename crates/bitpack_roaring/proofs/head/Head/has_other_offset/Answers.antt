-- The offsets are after the keys and counts.
use Rattle.std.proofs.Common.{arith}
use Rattle.bitpack_roaring.proofs.HeadLaws.{keys_room, offsets_room}
use Rattle.bitpack_roaring.proofs.head.Head.has_other_offset.Goals as goal

pub overflow_add-first : goal.overflow_add-first
overflow_add-first c =
    let room = keys_room _ _ _ _ _ _ c.args.self.sound in
    let most = c.ranges.self.0 in
    omega arith

pub read_integer-requires-clause-within : goal.read_integer-requires-clause-within
read_integer-requires-clause-within c =
    let room = offsets_room _ _ _ _ _ _ c.args.self.sound c.if-not-self.false in
    omega (arith, c.requires.within)
