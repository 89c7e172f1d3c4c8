-- Ids of a list are looked up in blocks.
use Rattle.std.proofs.Common.{true, false}
use Rattle.bitpack_slices.proofs.lemmas.bytes.FollowLaws.{follow_as}
use Rattle.bitpack_slices.proofs.lemmas.numbers.KeyLaws.{filter_of_key}
use Rattle.bitpack_slices.proofs.body.combine_with_blocks.Goals as goal
use Rattle.bitpack_slices.specs.Lists.{listed_ids}
use Rattle.bitpack_slices.specs.Slices.{block_numbers}

pub returns-in-And : goal.returns-in-And
returns-in-And c =
    rw c.in-And.is
    (follow_as _ _ _ _ _ _
    (filter_of_key true c.args.key (listed_ids c.args.list.now) (block_numbers c.args.body.now) c.requires.key c.args.list.now.rising c.requires.list) c.look_up.ensures)

pub returns-in-AndNot : goal.returns-in-AndNot
returns-in-AndNot c =
    rw c.in-AndNot.is
    (follow_as _ _ _ _ _ _
    (filter_of_key false c.args.key (listed_ids c.args.list.now) (block_numbers c.args.body.now) c.requires.key c.args.list.now.rising c.requires.list) c.look_up-in-AndNot.ensures)
