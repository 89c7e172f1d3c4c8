-- Those without a mark cannot be among the best.
use Rattle.std.proofs.Common.{rules, ◌≡◌, ◌+◌, get_or, length, take, subst, arith}
use Rattle.std.proofs.lemmas.List.{get_or-take, length-take}
use Rattle.bitpack_ranked.specs.inner.Candidates.{IsBeaten}
use Rattle.bitpack_ranked.proofs.RetainSteps.{retained_as}
use Rattle.bitpack_ranked.proofs.candidates.Candidates.retain_bounded.Goals as goal

pub returns-clause-retained : goal.returns-clause-retained
returns-clause-retained c =
    let ids = c.args.self.now.ids in
    let len = c.args.self.now.len in
    let k = length c.args.found.now in
    let found = take c.args.len c.args.found.now in
    let room : length ids ≡ 128 = search rules in
    retained_as (λ p. get_or c.mark_best.new.marks p 0 ≡ 0) (λ p. IsBeaten k found (get_or c.args.bounds.now p 0) (get_or ids p 0)) ids c.args.self.now.scores len
    c.retain-self.new.ids c.retain-self.new.scores c.retain-self.result
    (λ p lt none.
    let bound : get_or c.args.bounds.now p 0 + 0 ≡ get_or c.args.bounds.now p 0 = omega arith in
    let beaten = c.mark_best.ensures.none p (omega (arith, lt, c.requires.short, room, length-take len ids)) none in
    subst (λ score. IsBeaten k found score (get_or ids p 0)) bound
    (subst (λ id. IsBeaten k found (get_or c.args.bounds.now p 0 + 0) id) (get_or-take len ids p 0 lt) beaten)) c.retain-self.ensures.retained
