use Rattle.std.proofs.Common.{length-set, refl, ◌∙◌, ◌+◌, arith, rules}
use Rattle.std.proofs.lemmas.List.{drop-set-lt}
use Rattle.bitpack_slices.proofs.ForCallers.{byte_small}
use Rattle.bitpack_queries.proofs.lemmas.two.RetainedLaws.{next_same, retain_more}
use Rattle.bitpack_queries.proofs.in_place.retain_run.Goals as goal

pub loop-i-init : goal.loop-i-init
loop-i-init c = record { goes_on = λ all so. so; rest = refl; behind = c.requires.behind; long = refl }

pub loop-i-preserved : goal.loop-i-preserved
loop-i-preserved c =
    let inv = c.loop-i.invariant in
    let small = byte_small c.has.result in
    let less = c.loop-i-test.true in
    record {
      goes_on = λ all so. (let was = inv.goes_on all so in retain_more c.args.there c.has.result _ all c.loop-i.values c.loop-i.retained c.loop-i.i was (let long = was.long in omega arith) c.has.ensures);
      rest = drop-set-lt (c.loop-i.i + 1) c.loop-i.values c.loop-i.retained _ (let behind = inv.behind in omega arith) ∙ next_same _ c.loop-i.values c.loop-i.i inv.rest;
      behind = (let behind = inv.behind in search rules);
      long = length-set c.loop-i.values c.loop-i.retained _ ∙ inv.long;
    }
