-- Ids of a list are looked up in blocks.
use Rattle.std.proofs.Common.{◌∙◌, ◌+◌, ◌*◌, true, ap, map, subst}
use Rattle.bitpack_slices.proofs.lemmas.bytes.FollowLaws.{follow_as}
use Rattle.bitpack_slices.proofs.lemmas.numbers.KeyLaws.{and_turned, filter_of_key, lows_in}
use Rattle.bitpack_slices.proofs.body.combine_blocks.Goals as goal
use Rattle.bitpack_slices.specs.Lists.{OfKey, listed_ids}
use Rattle.bitpack_slices.specs.Slices.{block_numbers}

pub returns-in-And : goal.returns-in-And
returns-in-And c =
    let ids = listed_ids c.in-Ids.list in
    let numbers = block_numbers c.args.body.now in
    rw (c.in-Ids.is, c.in-And.is)
    (follow_as _ _ _ _ _ _
    (filter_of_key true c.args.key ids numbers c.requires.key c.in-Ids.list.rising (subst (OfKey c.args.key) c.in-Ids.is c.requires.b)
    ∙ ap (map (λ low. c.args.key * 65536 + low)) (and_turned 65536 (lows_in ids) numbers)) c.look_up.ensures)
