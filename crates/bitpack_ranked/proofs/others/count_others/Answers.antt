-- One more word is counted.
use Rattle.std.proofs.Common.{◌≡◌, ◌<◌, cond, get_or, length, map, take, ap, ◌∙◌, arith}
use Rattle.std.specs.List.{count_by}
use Rattle.std.proofs.lemmas.List.{length-map, length-take, take_all}
use Rattle.std.proofs.lemmas.List.Sums.{count_by-le-length}
use Rattle.bitpack_ranked.specs.Ranked.{has_word}
use Rattle.bitpack_ranked.proofs.WordSteps.{sum_more}
use Rattle.bitpack_ranked.proofs.others.count_others.Goals as goal

pub add_word-requires-clause-small : goal.add_word-requires-clause-small
add_word-requires-clause-small g c = λ k lt.
    let words = map g.T.AsTerm.its_word c.args.terms.now in
    let i = c.loop-index.index in
    let few = count_by-le-length (has_word (get_or c.args.ids.now k 0)) (take i words) in
    omega (arith, c.loop-index.invariant k lt, few, length-take i words, c.loop-index-test.true, c.requires.few)

pub loop-index-preserved : goal.loop-index-preserved
loop-index-preserved g c = λ k lt.
    let f = g.T.AsTerm.its_word in
    let ts = c.args.terms.now in
    let i = c.loop-index.index in
    let x = c.index-terms-index.result in
    let within : i < length ts = omega (arith, c.loop-index-test.true) in
    let more = sum_more f ts i x c.index-terms-index.is within (λ t. cond (has_word (get_or c.args.ids.now k 0) t) 1 0) in
    omega (arith, more, c.add_word.ensures k lt, c.loop-index.invariant k lt)

pub returns : goal.returns
returns g c = λ k lt.
    let f = g.T.AsTerm.its_word in
    let ts = c.args.terms.now in
    let whole : take c.loop-index.index (map f ts) ≡ map f ts = take_all c.loop-index.index (map f ts) (omega (arith, c.loop-index-test.false, length-map ts f)) in
    c.loop-index.invariant k lt ∙ ap (λ zs. count_by (has_word (get_or c.args.ids.now k 0)) zs) whole
