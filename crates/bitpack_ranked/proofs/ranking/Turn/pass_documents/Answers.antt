-- The documents of the block are candidates, of which those are left that can be among the best and have enough of the words.
use Rattle.std.proofs.Common.{ℕ, ◌+◌, ◌*◌, ◌<◌, Bool, get_or, length, map, take, refl, arith}
use Rattle.std.specs.List.{count_by}
use Rattle.std.proofs.lemmas.Bool.{le-leb, leb-true}
use Rattle.bitpack_ranked.specs.Ranked.{has_word}
use Rattle.bitpack_ranked.specs.inner.Candidates.{IsBeaten}
use Rattle.bitpack_ranked.proofs.BlockSteps.{block_rise, of_block}
use Rattle.bitpack_ranked.proofs.CandidateSteps.{its_score, some_left}
use Rattle.bitpack_ranked.proofs.PastSteps.{and_second, both_true, count_new, fresh_not_past, from_tests, has_enough, is_fresh, is_new, is_past, its_words, to_tests}
use Rattle.bitpack_ranked.proofs.WordSteps.{rest_bounds}
use Rattle.bitpack_ranked.proofs.ranking.Turn.pass_documents.Goals as goal

pub rank-requires-clause-rise : goal.rank-requires-clause-rise
rank-requires-clause-rise g c =
    let turn = c.args.self.now in
    let f = g.T.AsTerm.its_word in
    let its = c.candidates-candidates in
    c.retain_enough.ensures.retained.rise (c.retain_best.ensures.retained.rise
    (block_rise (map f turn.before.now) (f turn.term.now) (map f turn.after.now) (g.met.T.AsTerm.is_word turn.term.now) turn.classes.now turn.at_least
    (length c.args.found.now) c.args.block c.args.walk.now c.requires.block its.result its.ensures.len its.ensures.ids its.ensures.scores))

pub rank-requires-clause-small : goal.rank-requires-clause-small
rank-requires-clause-small g c = λ j lt.
    let (p, less, id, score) = c.retain_enough.ensures.retained.from j lt in
    let (q, before, its, has) = c.retain_best.ensures.retained.from p less in
    omega (arith, score, has, c.candidates-candidates.ensures.small q (omega (arith, before, c.candidates-candidates.ensures.len)))

pub returns-clause-best : goal.returns-clause-best
returns-clause-best g c =
    let turn = c.args.self.now in
    let f = g.T.AsTerm.its_word in
    let before = map f turn.before.now in
    let word = f turn.term.now in
    let after = map f turn.after.now in
    let is = g.met.T.AsTerm.is_word turn.term.now in
    let classes = turn.classes.now in
    let at_least = turn.at_least in
    let k = length c.args.found.now in
    let found = take c.args.len c.args.found.now in
    let p : ℕ = 128 * c.args.block in
    let q : ℕ = 128 * (c.args.block + 1) in
    let its = c.candidates-candidates in
    let words = its_words before word after is classes at_least k in
    let new : ℕ → Bool = is_new before word after is classes at_least k p q in
    let fresh : ℕ → Bool = is_fresh before word after is classes at_least k p q in
    let enough : ℕ → Bool = has_enough before word after is classes at_least k in
    let first = of_block before word after is classes at_least k c.args.block c.args.walk.now c.requires.block its.result its.ensures.len its.ensures.ids its.ensures.scores found in
    let best = c.retain_best.new.self in
    let left = some_left words before classes new k found after its.result best first new (λ j lt. refl) (λ id e. e)
    (λ j. IsBeaten k found (get_or its.result.scores j 0 + c.args.rest) (get_or its.result.ids j 0)) c.retain_best.ensures.retained
    (λ j lt passes beaten. (
      get_or its.result.scores j 0 + c.args.rest,
      omega (
        arith,
        its_score words before classes new k found after its.result best first j lt passes,
        rest_bounds f g.met.T.AsTerm.is_word turn.after.now classes (get_or its.result.ids j 0),
        c.requires.rest,
      ),
      beaten,
    )) in
    let with_enough = some_left words before classes new k found after best c.retain_enough.new.candidates left fresh
    (λ j lt. let id = get_or c.retain_enough.new.candidates.ids j 0 in
    and_second (enough id) (new id) (λ e. le-leb at_least (count_by (has_word id) words) (omega (
      arith,
      count_new before word after is classes at_least k p q id e,
      c.retain_enough.ensures.enough j lt,
    ))))
    (λ id e. (both_true (enough id) (new id) e).1)
    (λ j. count_by (has_word (get_or best.ids j 0)) after + 1 < at_least) c.retain_enough.ensures.retained
    (λ j lt e gone.
    let id = get_or best.ids j 0 in
    let (some, also) = both_true (enough id) (new id) e in
    absurd (omega (
      arith,
      leb-true at_least (count_by (has_word id) words) some,
      count_new before word after is classes at_least k p q id also,
      gone,
    ))) in
    from_tests before word after is classes at_least k (take c.rank.result c.rank.new.found) p q (omega arith)
    (c.rank.ensures.best words fresh (is_past before word after is classes at_least k p) with_enough (fresh_not_past before word after is classes at_least k p q)
    (to_tests before word after is classes at_least k found p c.requires.best))
