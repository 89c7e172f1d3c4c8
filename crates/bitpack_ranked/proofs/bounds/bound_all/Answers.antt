-- One more word is bounded.
use Rattle.std.proofs.Common.{◌≡◌, ◌<◌, get_or, length, map, take, ap, arith}
use Rattle.std.specs.List.{sum_by}
use Rattle.std.proofs.lemmas.List.{length-map, take_all}
use Rattle.bitpack_ranked.specs.Ranked.{part_in}
use Rattle.bitpack_ranked.proofs.WordSteps.{sum_more}
use Rattle.bitpack_ranked.proofs.bounds.bound_all.Goals as goal

pub bound_word-requires-clause-small : goal.bound_word-requires-clause-small
bound_word-requires-clause-small g c = λ k lt. omega (arith, (c.loop-index.invariant k lt).1, c.loop-index-test.true, c.requires.few)

pub loop-index-preserved : goal.loop-index-preserved
loop-index-preserved g c = λ k lt.
    let f = g.T.AsTerm.its_word in
    let ts = c.args.terms.now in
    let i = c.loop-index.index in
    let x = c.index-terms-index.result in
    let within : i < length ts = omega (arith, c.loop-index-test.true) in
    let more = sum_more f ts i x c.index-terms-index.is within (part_in c.args.classes.now (get_or c.args.ids.now k 0)) in
    let (is, small) = c.loop-index.invariant k lt in
    let (added, few) = c.bound_word.ensures k lt in
    (omega (arith, more, added, is), omega (arith, few, small))

pub returns : goal.returns
returns g c = λ k lt.
    let f = g.T.AsTerm.its_word in
    let ts = c.args.terms.now in
    let whole : take c.loop-index.index (map f ts) ≡ map f ts = take_all c.loop-index.index (map f ts) (omega (arith, c.loop-index-test.false, length-map ts f)) in
    omega (arith, (c.loop-index.invariant k lt).0, ap (λ zs. sum_by (part_in c.args.classes.now (get_or c.args.ids.now k 0)) zs) whole)
