-- A count has two bytes.
use Rattle.std.proofs.Common.{arith, ◌+◌, ◌*◌}
use Rattle.bitpack_roaring.proofs.HeadLaws.{keys_room, two_small}
use Rattle.bitpack_roaring.proofs.head.Head.count.Goals as goal

pub read_integer-requires-clause-within : goal.read_integer-requires-clause-within
read_integer-requires-clause-within c = let room = keys_room _ _ _ _ _ _ c.args.self.sound in omega (arith, c.requires.within)

pub returns-clause-few : goal.returns-clause-few
returns-clause-few c = let small = two_small c.args.self.keys (2 * c.args.container + 1) c.args.self.bytes.now c.args.self.are_bytes in omega (arith, c.read_integer.ensures)
