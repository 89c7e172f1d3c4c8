-- One document more has its part.
use Rattle.std.proofs.Common.{◌≡◌, ◌<◌, get_or, ap, ◌∙◌, inl, inr, arith}
use Rattle.std.proofs.lemmas.Bool.{cases_eq}
use Rattle.std.proofs.lemmas.List.{get_or-set_other, get_or-set_same, length-set}
use Rattle.bitpack_ranked.specs.Scores.{part_at}
use Rattle.bitpack_ranked.proofs.ranking.Turn.candidates.Goals as goal

pub loop-index-preserved : goal.loop-index-preserved
loop-index-preserved g c =
    let i = c.loop-index.index in
    let ids = c.loop-index.ids in
    let scores = c.loop-index.scores in
    let id = c.at-id.result.0 in
    let count = c.at-id.result.1 in
    let part = c.part.result in
    let table = (g.T.AsTerm.its_word c.args.self.now.term.now).table in
    let classes = c.args.self.now.classes.now in
    let (room, also, done) = c.loop-index.invariant in
    let lt : i < 128 = omega (arith, c.loop-index-test.true, c.loop-index.auto.index-end, c.len-index-end.ensures, c.requires) in
    let its : part ≡ part_at table (get_or c.args.walk.now.counts i 0) (get_or classes (get_or c.args.walk.now.ids i 0) 0) =
    c.part.ensures ∙ ap (λ t. part_at t count c.class_of.result) c.parts.ensures ∙ ap (λ n. part_at table n c.class_of.result) c.at-id.ensures.count
    ∙ ap (λ m. part_at table (get_or c.args.walk.now.counts i 0) m) (c.class_of.ensures ∙ ap (λ x. get_or classes x 0) c.at-id.ensures.id) in (
      length-set ids i id ∙ room,
      length-set scores i part ∙ also,
      λ k upto. elim (cases_eq k i) [
        | inl at ↦
            rw (at, get_or-set_same ids i id 0 (omega (arith, lt, room)), get_or-set_same scores i part 0 (omega (arith, lt, also)))
            (c.at-id.ensures.id, its, omega (arith, c.part.type_inv))
        | inr other ↦ rw (get_or-set_other ids i k id 0 other, get_or-set_other scores i k part 0 other) (done k (omega (arith, upto, other)))
      ],
    )
