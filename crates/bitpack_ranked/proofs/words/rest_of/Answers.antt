-- The greatest part of one more word is added.
use Rattle.std.proofs.Common.{◌≡◌, ◌<◌, length, map, take, ap, ◌∙◌, arith}
use Rattle.std.proofs.lemmas.List.{length-map, take_all}
use Rattle.bitpack_ranked.specs.inner.Walks.{greatest_part, most_rest}
use Rattle.bitpack_ranked.proofs.WordSteps.{sum_more}
use Rattle.bitpack_ranked.proofs.words.rest_of.Goals as goal

pub loop-index-preserved : goal.loop-index-preserved
loop-index-preserved g c =
    let f = g.T.AsTerm.its_word in
    let ts = c.args.terms.now in
    let i = c.loop-index.index in
    let x = c.index-terms-index.result in
    let lt : i < length ts = omega (arith, c.loop-index-test.true) in
    let (rest, small) = c.loop-index.invariant in
    let more = sum_more f ts i x c.index-terms-index.is lt (λ word. greatest_part word.table) in
    let its : c.greatest.result ≡ greatest_part (f x).table = c.greatest.ensures ∙ ap greatest_part c.parts.ensures in
    (omega (arith, more, its, rest), omega (arith, small, c.greatest.type_inv))

pub returns-clause-rest : goal.returns-clause-rest
returns-clause-rest g c =
    let f = g.T.AsTerm.its_word in
    let ts = c.args.terms.now in
    let whole : take c.loop-index.index (map f ts) ≡ map f ts = take_all c.loop-index.index (map f ts) (omega (arith, c.loop-index-test.false, length-map ts f)) in
    c.loop-index.invariant.0 ∙ ap most_rest whole
