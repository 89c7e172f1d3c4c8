-- One set more.
use Rattle.std.proofs.Common.{◌≡◌, ◌∙◌, List, [], ap, arith, get_or, map, min, refl, sym, ℕ}
use Rattle.std.specs.List.{sum_by}
use Rattle.std.proofs.lemmas.List.{length-map, take_all}
use Rattle.std.proofs.lemmas.List.Sums.{sum-map, sum_by_more}
use Rattle.bitpack_sets.specs.Opened.{ids}
use Rattle.bitpack_sets.specs.Written.{places}
use Rattle.bitpack_queries.proofs.lemmas.many.FoldLaws.{set_ids}
use Rattle.bitpack_queries.proofs.combining_all_sets.keys_of.Goals as goal

pub loop-i-init : goal.loop-i-init
loop-i-init g c = record { so = refl }

pub overflow_add-sum : goal.overflow_add-sum
overflow_add-sum g c =
    let few = c.places.ensures.few in
    let so = c.loop-i.invariant.so in
    record { fits = omega arith }

pub loop-i-preserved : goal.loop-i-preserved
loop-i-preserved g c =
    let f = g.S.AsSet.its_ids in
    let all : List (List ℕ) = map f c.args.sets.now in
    let inside = c.loop-i-test.true in
    let long = length-map c.args.sets.now f in
    let own : get_or all c.loop-i.i [] ≡ ids c.as_set.result =
    set_ids f c.args.sets.now c.loop-i.i c.index-sets-i.result inside c.index-sets-i.is ∙ sym c.as_set.ensures in
    let here = ap places own in
    let more = sum_by_more places all c.loop-i.i [] (omega arith) in
    let before = c.loop-i.invariant.so in
    let is = c.places.ensures.places in
    record { so = omega (arith, c.min-sum.ensures) }

pub returns : goal.returns
returns g c =
    let f = g.S.AsSet.its_ids in
    let all : List (List ℕ) = map f c.args.sets.now in
    let past = c.loop-i-test.false in
    let long = length-map c.args.sets.now f in
    c.loop-i.invariant.so ∙ ap (λ (l : List (List ℕ)). min 65536 (sum_by places l)) (take_all c.loop-i.i all (omega arith)) ∙ ap (min 65536) (sym (sum-map places all))
