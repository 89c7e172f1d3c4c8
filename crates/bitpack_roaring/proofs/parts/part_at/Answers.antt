-- The chunk comes next.
use Rattle.std.proofs.Common.{arith}
use Rattle.bitpack_roaring.proofs.PartLaws.{goes_on, key_below, part_is, split_at}
use Rattle.bitpack_roaring.proofs.parts.part_at.Goals as goal

pub end-end-requires-clause-key : goal.end-end-requires-clause-key
end-end-requires-clause-key c =
    let small = key_below c.args.chunks.now c.args.position c.requires.within c.requires.rising in
    omega (arith, c.key-key.ensures.first)

pub count-count-requires-clause-later : goal.count-count-requires-clause-later
count-count-requires-clause-later c =
    let found = c.end-end.ensures in
    goes_on c.args.chunks.now c.args.position c.end-end.result c.key-key.result found.later c.key-key.ensures.first found.passed

pub returns-clause-part : goal.returns-clause-part
returns-clause-part c ids at =
    let set = c.args.chunks.now in
    let p = c.args.position in
    let found = c.end-end.ensures in
    let first = c.key-key.ensures.first in
    let small = key_below set p c.requires.within c.requires.rising in
    let less = goes_on set p c.end-end.result c.key-key.result found.later first found.passed in
    let is = split_at set p c.end-end.result c.key-key.result less c.requires.within found.within found.one c.requires.rising first found.shared in
    part_is ids set _ at c.requires.within found.within less found.one (omega arith) found.passed is c.count-count.ensures
