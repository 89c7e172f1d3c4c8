-- The part of one document more is added, if it is the next that is common.
use Rattle.std.proofs.Common.{◌≡◌, ℕ, ◌+◌, ◌<◌, cond, get_or, length, sym, ap, inl, inr, arith}
use Rattle.std.proofs.lemmas.Bool.{cases_eq}
use Rattle.std.proofs.lemmas.List.{get_or-set_other, get_or-set_same}
use Rattle.bitpack_slices.specs.Reads.{has}
use Rattle.bitpack_ranked.specs.Ranked.{has_word, part_in}
use Rattle.bitpack_ranked.proofs.MatchSteps.{one_more}
use Rattle.bitpack_ranked.proofs.PositionLemmas.{has_position}
use Rattle.bitpack_ranked.proofs.adding.add_common.Goals as goal

pub overflow_add-scores : goal.overflow_add-scores
overflow_add-scores g c =
    let (same, done, rest, few) = c.loop-index.invariant in
    let i = c.loop-index.index in
    omega (arith, rest i (omega arith), c.requires.small i (omega (arith, c.loop-index-test.true)), c.part_if.type_inv)

pub loop-index-preserved : goal.loop-index-preserved
loop-index-preserved g c =
    let word = g.T.AsTerm.its_word c.args.term.now in
    let classes = c.args.classes.now in
    let ids = c.args.ids.now in
    let scores = c.loop-index.scores in
    let i = c.loop-index.index in
    let id = get_or ids i 0 in
    let its = c.is_next-more.ensures in
    let value = get_or scores i 0 + c.part_if.result in
    let lt : i < length ids = omega (arith, c.loop-index-test.true) in
    let room : i < length scores = omega (arith, lt, c.loop-index.auto.scores, c.requires.room) in
    let (same, done, rest, few) = c.loop-index.invariant in
    let (now, later) =
    one_more (λ x. has x word.ids) c.args.common.now ids c.loop-index.next i c.is_next-more.result lt same its.there its.lacking its.small in
    let more : c.is_next-more.result ≡ cond (has_word id word) 1 0 = omega (arith, now, ap {B = ℕ} (λ b. cond b 1 0) (has_position word.ids id)) in
    let part : c.part_if.result ≡ part_in classes id word = c.part_if.ensures classes (sym c.class_of.ensures) more in (
      later,
      λ k upto. elim (cases_eq k i) [
        | inl at ↦ rw (at, get_or-set_same scores i value 0 room) (omega (arith, part, rest i (omega arith)), omega (arith, c.part_if.type_inv, rest i (omega arith)))
        | inr other ↦ rw (get_or-set_other scores i k value 0 other) (done k (omega (arith, other, upto)))
      ],
      λ k above. rw (get_or-set_other scores i k value 0 (λ at. omega (arith, at, above))) (rest k (omega (arith, above))),
      omega (arith, few, its.small),
    )
