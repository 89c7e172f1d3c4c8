-- The next id is one of those that are common, or not.
use Rattle.std.proofs.Common.{◌+◌, ◌<◌, get_or, length, inl, inr, arith}
use Rattle.std.proofs.lemmas.Bool.{cases_eq}
use Rattle.std.proofs.lemmas.List.{get_or-set_other, get_or-set_same}
use Rattle.bitpack_slices.specs.Reads.{has}
use Rattle.bitpack_ranked.proofs.MatchSteps.{one_more}
use Rattle.bitpack_ranked.proofs.others.add_common.Goals as goal

pub loop-index-preserved : goal.loop-index-preserved
loop-index-preserved c =
    let ids = c.args.ids.now in
    let common = c.args.common.now in
    let counts = c.loop-index.counts in
    let i = c.loop-index.index in
    let more = c.is_next-more.result in
    let value = get_or counts i 0 + more in
    let its = c.is_next-more.ensures in
    let lt : i < length ids = omega (arith, c.loop-index-test.true) in
    let room : i < length counts = omega (arith, lt, c.loop-index.auto.counts, c.requires.room) in
    let (same, done, rest, few) = c.loop-index.invariant in (
      λ xs e. (one_more (λ x. has x xs) common ids c.loop-index.next i more lt (same xs e) its.there its.lacking its.small).1,
      λ xs k e upto. elim (cases_eq k i) [
        | inl at ↦
            let now = (one_more (λ x. has x xs) common ids c.loop-index.next i more lt (same xs e) its.there its.lacking its.small).0 in
            rw (at, get_or-set_same counts i value 0 room) (omega (arith, now, rest i (omega arith)))
        | inr other ↦ rw (get_or-set_other counts i k value 0 other) (done xs k e (omega (arith, other, upto)))
      ],
      λ k above. rw (get_or-set_other counts i k value 0 (λ at. omega (arith, at, above))) (rest k (omega (arith, above))),
      omega (arith, few, its.small),
    )
