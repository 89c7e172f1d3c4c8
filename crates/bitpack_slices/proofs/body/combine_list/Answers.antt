-- Two lists are merged, or ids of a list are looked up in blocks.
use Rattle.std.proofs.Common.{subst}
use Rattle.bitpack_slices.proofs.lemmas.bytes.FollowLaws.{follow_as}
use Rattle.bitpack_slices.proofs.lemmas.numbers.KeyLaws.{answer_of_key}
use Rattle.bitpack_slices.proofs.body.combine_list.Goals as goal
use Rattle.bitpack_slices.specs.Lists.{OfKey, listed_ids}

pub returns-in-Ids : goal.returns-in-Ids
returns-in-Ids c =
    rw c.in-Ids.is
    (follow_as _ _ _ _ _ _
    (answer_of_key c.args.operation c.args.key (listed_ids c.args.list.now) (listed_ids c.in-Ids.other) c.requires.key c.requires.list (subst (OfKey c.args.key) c.in-Ids.is c.requires.b))
    c.merge.ensures)
