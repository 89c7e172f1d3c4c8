-- One more word is counted.
use Rattle.std.proofs.Common.{◌≡◌, ◌<◌, cond, length, map, take, ap, ◌∙◌, arith}
use Rattle.std.specs.List.{count_by}
use Rattle.std.proofs.lemmas.List.{length-map, take_all}
use Rattle.bitpack_ranked.specs.Ranked.{has_word}
use Rattle.bitpack_ranked.proofs.WordSteps.{cond_le, sum_more}
use Rattle.bitpack_ranked.proofs.words.count_words.Goals as goal

pub loop-index-preserved : goal.loop-index-preserved
loop-index-preserved g c =
    let f = g.T.AsTerm.its_word in
    let ts = c.args.terms.now in
    let i = c.loop-index.index in
    let x = c.index-terms-index.result in
    let lt : i < length ts = omega (arith, c.loop-index-test.true) in
    let (count, few) = c.loop-index.invariant in
    let more = sum_more f ts i x c.index-terms-index.is lt (λ t. cond (has_word c.args.id t) 1 0) in
    let one = cond_le (has_word c.args.id (f x)) in (omega (arith, more, count, c.count_word-words.ensures), omega (arith, few, one, c.count_word-words.ensures))

pub returns : goal.returns
returns g c =
    let f = g.T.AsTerm.its_word in
    let ts = c.args.terms.now in
    let (count, few) = c.loop-index.invariant in
    let whole : take c.loop-index.index (map f ts) ≡ map f ts = take_all c.loop-index.index (map f ts) (omega (arith, c.loop-index-test.false, length-map ts f)) in
    count ∙ ap (λ zs. count_by (has_word c.args.id) zs) whole
