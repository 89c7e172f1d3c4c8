-- One more word is added, and those are left out that cannot be among the best.
use Rattle.std.proofs.Common.{◌≡◌, ◌+◌, ◌-◌, ◌<◌, ◌≤◌, get_or, length, map, drop, take, refl, subst, ap, ◌∙◌, arith}
use Rattle.bitpack_ranked.specs.declared.candidates.Candidates.{Candidates}
use Rattle.bitpack_ranked.specs.inner.Candidates.{AreCandidates, IsBeaten}
use Rattle.bitpack_ranked.specs.inner.Walks.{greatest_part, most_rest}
use Rattle.bitpack_ranked.proofs.CandidateSteps.{count_first, its_score, one_added, some_left}
use Rattle.bitpack_ranked.proofs.WordSteps.{rest_bounds, rest_more, words_more}
use Rattle.bitpack_ranked.proofs.candidates.Candidates.add.Goals as goal

pub loop-index-preserved : goal.loop-index-preserved
loop-index-preserved g c =
    let f = g.T.AsTerm.its_word in
    let ts = c.args.left.now in
    let i = c.loop-index.index in
    let x = c.index-left-index.result in
    let classes = c.args.classes.now in
    let k = length c.args.found.now in
    let found = take c.args.len c.args.found.now in
    let self = c.loop-index.self in
    let scores = c.add_word.new.scores in
    let new = c.retain_best.new.self in
    let kept = c.retain_best.ensures.retained in
    let lt : i < length ts = omega (arith, c.loop-index-test.true, c.loop-index.auto.index-end) in
    let (room, few, rise, rest, small, high, candidates) = c.loop-index.invariant in
    let fits : self.len ≤ length self.ids = omega (arith, room, few) in
    let greatest : c.greatest.result ≡ greatest_part (f x).table = c.greatest.ensures ∙ ap greatest_part c.parts.ensures in
    let now : c.loop-index.rest - c.greatest.result ≡ most_rest (map f (drop (i + 1) ts)) =
    omega (arith, rest, rest_more f ts i x c.index-left-index.is lt, greatest) in
    let middle : Candidates = record { ids = self.ids; scores = scores; len = self.len } in (
      c.retain_best.ensures.room,
      omega (arith, few, c.retain_best.ensures.few),
      kept.rise rise,
      now,
      omega (arith, small),
      λ j upto.
          let (p, less, id, score) = kept.from j upto in
          let added = c.add_word.ensures p (omega (arith, less, count_first self.ids self.len fits)) in
          omega (arith, score, added.1, high p less),
      λ words before test are.
          let was = subst (λ ws. AreCandidates words before ws classes test k found self) (words_more f ts i x c.index-left-index.is lt) (candidates words before test are) in
          let more = map f (drop (i + 1) ts) in
          let are_middle = one_added words before classes test k found (f x) more self was scores fits c.add_word.ensures in
          some_left words before classes test k found more middle new are_middle test (λ j upto. refl) (λ id is. is)
          (λ p. IsBeaten k found (get_or scores p 0 + (c.loop-index.rest - c.greatest.result)) (get_or self.ids p 0)) kept
          (λ p less passes beaten. (
            get_or scores p 0 + (c.loop-index.rest - c.greatest.result),
            omega (
              arith,
              its_score words before classes test k found more middle new are_middle p less passes,
              rest_bounds f g.met.T.AsTerm.is_word (drop (i + 1) ts) classes (get_or self.ids p 0),
              now,
            ),
            beaten,
          )),
    )
