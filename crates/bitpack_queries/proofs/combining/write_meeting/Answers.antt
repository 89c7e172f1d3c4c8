-- The bodies have the numbers of the key.
use Rattle.std.proofs.Common.{◌+◌, ◌*◌, ap, map}
use Rattle.bitpack_queries.proofs.lemmas.two.AnswerLaws.{meets_same}
use Rattle.bitpack_slices.proofs.ForCallers.{follow_as}
use Rattle.bitpack_queries.proofs.combining.write_meeting.Goals as goal

pub returns : goal.returns
returns c =
    follow_as _ _ _ _ _ _ (ap (map (λ i. c.args.meeting.key * 65536 + i)) (meets_same c.args.pair.now c.args.meeting _ _ c.body-a.ensures.lows c.body-b.ensures.lows)) c.combine.ensures
