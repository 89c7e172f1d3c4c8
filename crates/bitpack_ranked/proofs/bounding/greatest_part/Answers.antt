-- One part more.
use Rattle.std.proofs.Common.{◌≡◌, max, get_or, ap, ◌∙◌, inl, inr, arith}
use Rattle.std.proofs.lemmas.Bool.{cases_eq}
use Rattle.bitpack_ranked.specs.Scores.{part_at}
use Rattle.bitpack_ranked.proofs.AddSteps.{greater}
use Rattle.bitpack_ranked.proofs.bounding.greatest_part.Goals as goal

pub loop-index-preserved : goal.loop-index-preserved
loop-index-preserved g c = λ k upto.
    let i = c.loop-index.index in
    let count = c.at-id.result.1 in
    let part = c.part.result in
    let walk = c.args.walk.now in
    let table = (g.T.AsTerm.its_word c.args.term.now).table in
    let classes = c.args.classes.now in
    let its : part ≡ part_at table (get_or walk.counts i 0) (get_or classes (get_or walk.ids i 0) 0) =
    c.part.ensures ∙ ap (λ t. part_at t count c.class_of.result) c.parts.ensures ∙ ap (λ n. part_at table n c.class_of.result) c.at-id.ensures.count
    ∙ ap (λ m. part_at table (get_or walk.counts i 0) m) (c.class_of.ensures ∙ ap (λ x. get_or classes x 0) c.at-id.ensures.id) in
    let top : c.max-most.result ≡ max c.loop-index.most part = omega (arith, c.max-most.ensures, greater c.loop-index.most part) in
    elim (cases_eq k i) [
      | inl at ↦ rw at (omega (arith, its, top))
      | inr other ↦ omega (arith, c.loop-index.invariant k (omega (arith, upto, other)), top)
    ]
