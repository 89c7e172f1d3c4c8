-- The documents are candidates, unless a bound tells that they are not among the best.
use Rattle.std.proofs.Common.{ℕ, Bool, [], get_or, length, map, refl, take, arith}
use Rattle.std.proofs.lemmas.Simd.{get_or-replicate}
use Rattle.bitpack_slices.specs.Reads.{has}
use Rattle.bitpack_ranked.specs.inner.Candidates.{IsBeaten}
use Rattle.bitpack_ranked.proofs.CandidateSteps.{given, given_rise, its_id, some_left}
use Rattle.bitpack_ranked.proofs.among.pass_some.Goals as goal

pub rank-requires-clause-rise : goal.rank-requires-clause-rise
rank-requires-clause-rise g c =
    let its = c.copy-candidates in
    c.retain_bounded.ensures.retained.rise (given_rise c.args.documents.now its.result its.ensures.len its.ensures.ids c.requires.increasing)

pub rank-requires-clause-small : goal.rank-requires-clause-small
rank-requires-clause-small g c = λ j lt.
    let (p, less, id, score) = c.retain_bounded.ensures.retained.from j lt in
    omega (arith, score, c.copy-candidates.ensures.scores p less)

pub returns-clause-best : goal.returns-clause-best
returns-clause-best g c = λ old fresh best.
    let words = map g.T.AsTerm.its_word c.args.terms.now in
    let classes = c.args.classes.now in
    let documents = c.args.documents.now in
    let k = length c.args.found.now in
    let found = take c.args.len c.args.found.now in
    let its = c.copy-candidates in
    let bounds = c.bound_all.new.bounds in
    let test : ℕ → Bool = λ id. has id documents in
    let are = given documents its.result its.ensures.len its.ensures.ids words classes k found its.ensures.scores in
    let left = some_left words [] classes test k found words its.result c.retain_bounded.new.self are test (λ j upto. refl) (λ id is. is)
    (λ p. IsBeaten k found (get_or bounds p 0) (get_or its.result.ids p 0)) c.retain_bounded.ensures.retained
    (λ p lt passes beaten.
    let id = its_id documents its.result its.ensures.len its.ensures.ids p lt in
    (get_or bounds p 0, rw id (c.bound_all.ensures p (omega (arith, lt, its.ensures.len))), beaten)) in
    c.rank.ensures.best words test old left fresh best

pub bound_all-requires-clause-none : goal.bound_all-requires-clause-none
bound_all-requires-clause-none g c = λ k lt. get_or-replicate {A = ℕ} 128 k 0 0 (omega (arith, lt, c.requires.short))
