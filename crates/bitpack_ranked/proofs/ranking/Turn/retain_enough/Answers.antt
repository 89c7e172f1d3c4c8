-- Those that are left out have too few of the words after.
use Rattle.std.proofs.Common.{rules, ◌≡◌, ℕ, ◌+◌, ◌-◌, ◌<◌, get_or, length, map, ap, arith}
use Rattle.std.specs.List.{count_by}
use Rattle.std.proofs.lemmas.List.{get_or-take, length-take}
use Rattle.std.proofs.lemmas.Simd.{get_or-replicate}
use Rattle.bitpack_ranked.specs.Ranked.{has_word}
use Rattle.bitpack_ranked.proofs.RetainSteps.{retained_all, retained_as}
use Rattle.bitpack_ranked.proofs.ranking.Turn.retain_enough.Goals as goal

pub returns-then-self-eq1-clause-retained : goal.returns-then-self-eq1-clause-retained
returns-then-self-eq1-clause-retained g c =
    let its = c.args.candidates.now in
    retained_all (λ p. count_by (has_word (get_or its.ids p 0)) (map g.T.AsTerm.its_word c.args.self.now.after.now) + 1 < c.args.self.now.at_least) its.ids its.scores its.len

pub count_others-requires-clause-none : goal.count_others-requires-clause-none
count_others-requires-clause-none g c = λ k lt.
    let its = c.args.candidates.now in
    get_or-replicate {A = ℕ} 128 k 0 0 (omega (arith, lt, c.requires, length-take its.len its.ids))

pub returns-clause-retained : goal.returns-clause-retained
returns-clause-retained g c =
    let its = c.args.candidates.now in
    let new = c.retain_with.new.self in
    let after = map g.T.AsTerm.its_word c.args.self.now.after.now in
    let at_least = c.args.self.now.at_least in
    let words = c.count_others.new.counts in
    let room : length its.ids ≡ 128 = search rules in
    retained_as (λ p. get_or words p 0 < at_least - 1) (λ p. count_by (has_word (get_or its.ids p 0)) after + 1 < at_least) its.ids its.scores its.len new.ids new.scores
    new.len (λ p lt few.
    let counted = c.count_others.ensures p (omega (arith, lt, c.requires, room, length-take its.len its.ids)) in
    omega (arith, few, counted, ap (λ id. count_by (has_word id) after) (get_or-take its.len its.ids p 0 lt))) c.retain_with.ensures.retained

pub returns-clause-enough : goal.returns-clause-enough
returns-clause-enough g c = λ j lt.
    let its = c.args.candidates.now in
    let after = map g.T.AsTerm.its_word c.args.self.now.after.now in
    let room : length its.ids ≡ 128 = search rules in
    let (p, less, id, enough) = c.retain_with.ensures.enough j lt in
    let counted = c.count_others.ensures p (omega (arith, less, c.requires, room, length-take its.len its.ids)) in
    omega (
      arith,
      enough,
      counted,
      ap (λ id. count_by (has_word id) after) (get_or-take its.len its.ids p 0 less),
      ap (λ id. count_by (has_word id) after) id,
    )
