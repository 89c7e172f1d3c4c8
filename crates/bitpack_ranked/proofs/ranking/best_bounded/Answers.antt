-- Word after word.
use Rattle.std.proofs.Common.{◌≡◌, ◌+◌, ◌-◌, ◌<◌, length, map, max, subst, sym, take, arith}
use Rattle.std.proofs.lemmas.List.{length-map}
use Rattle.bitpack_ranked.specs.Bounds.{AreBounds}
use Rattle.bitpack_ranked.specs.Ranked.{AreBest, IsHit}
use Rattle.bitpack_ranked.specs.inner.Walks.{IsPast}
use Rattle.bitpack_ranked.proofs.PastSteps.{all_past, word_begins, word_ends}
use Rattle.bitpack_ranked.proofs.WordSteps.{at_word}
use Rattle.bitpack_ranked.proofs.ranking.best_bounded.Goals as goal

pub pass-len-requires-clause-best : goal.pass-len-requires-clause-best
pass-len-requires-clause-best g c =
    let ts = c.args.terms.now in
    let i = c.loop-index.index in
    let lt : i < length ts = omega (arith, c.loop-index-test.true, c.saturating_sub-index-end.ensures, c.max-at_least.ensures) in
    let (few, best) = c.loop-index.invariant in
    word_begins g.T.AsTerm.its_word ts i c.index-terms-index.result c.index-terms-index.is lt c.args.classes.now c.max-at_least.result (length c.loop-index.found)
    (take c.loop-index.len c.loop-index.found) best

pub pass-len-requires-clause-bounds : goal.pass-len-requires-clause-bounds
pass-len-requires-clause-bounds g c =
    let f = g.T.AsTerm.its_word in
    let ts = c.args.terms.now in
    let i = c.loop-index.index in
    let x = c.index-terms-index.result in
    let classes = c.args.classes.now in
    let lt : i < length ts = omega (arith, c.loop-index-test.true, c.saturating_sub-index-end.ensures, c.max-at_least.ensures) in
    let its = c.bounds_at.ensures classes (map f ts) (f x) c.requires.bounds (omega (arith, lt, length-map ts f)) in
    subst (λ word. AreBounds classes word c.bounds_at.result.parts.now) (at_word f ts i x c.index-terms-index.is lt (f x)) its

pub loop-index-preserved : goal.loop-index-preserved
loop-index-preserved g c =
    let f = g.T.AsTerm.its_word in
    let ts = c.args.terms.now in
    let i = c.loop-index.index in
    let passed = c.pass-len in
    let at_least = c.max-at_least.result in
    let lt : i < length ts = omega (arith, c.loop-index-test.true, c.saturating_sub-index-end.ensures, c.max-at_least.ensures) in
    let best =
    word_ends f ts i c.index-terms-index.result c.index-terms-index.is lt c.args.classes.now at_least (length c.loop-index.found) (take passed.result passed.new.found)
    passed.ensures.best in (
      omega (arith, passed.ensures.len, passed.auto.found),
      subst (λ k. AreBest (IsPast (map f ts) c.args.classes.now at_least (i + 1)) k (take passed.result passed.new.found)) (sym passed.auto.found) best,
    )

pub returns-clause-best : goal.returns-clause-best
returns-clause-best g c =
    let words = map g.T.AsTerm.its_word c.args.terms.now in
    let at_least = c.max-at_least.result in
    let (few, best) = c.loop-index.invariant in
    let first : c.loop-index.index ≡ length words + 1 - at_least =
    omega (arith, c.loop-index-test.false, c.loop-index.auto.index-end, c.saturating_sub-index-end.ensures, length-map c.args.terms.now g.T.AsTerm.its_word) in
    let same : at_least ≡ max 1 c.args.at_least = omega (arith, c.max-at_least.ensures) in
    let all =
    all_past words c.args.classes.now at_least (length c.loop-index.found) c.loop-index.index (take c.loop-index.len c.loop-index.found)
    (omega (arith, c.max-at_least.ensures)) first best in
    subst (λ n. AreBest (IsHit words c.args.classes.now n) (length c.args.found.now) (take c.loop-index.len c.loop-index.found)) same (rw c.loop-index.auto.found at all)
