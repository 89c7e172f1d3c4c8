-- A set more drops the ids that it has.
use Rattle.std.proofs.Common.{ℕ, List, drop, length-append, map, take, sym, ◌∙◌, arith}
use Rattle.std.proofs.lemmas.List.{length-map, take-append-le}
use Rattle.bitpack_sets.specs.Opened.{ids}
use Rattle.bitpack_queries.proofs.lemmas.many.FoldLaws.{set_ids}
use Rattle.bitpack_queries.proofs.lemmas.many.PickLaws.{drop_more}
use Rattle.bitpack_queries.proofs.combining_all.subtract_to.Goals as goal

pub loop-i-preserved : goal.loop-i-preserved
loop-i-preserved g c =
    let inv = c.loop-i.invariant in
    let f = g.S.AsSet.its_ids in
    let all : List (List ℕ) = map f c.args.sets.now in
    let long = length-map c.args.sets.now f in
    let inside = c.loop-i-test.true in
    let two = c.loop-i.auto.i in
    let own = set_ids f c.args.sets.now c.loop-i.i c.index-sets-i.result inside c.index-sets-i.is in
    let retained = c.retain_if-count.ensures in
    let few = retained.within in
    record {
      within = (let whole = length-append c.retain_if-count.new.values (drop c.loop-i.count c.loop-i.out) in omega arith);
      ids = take-append-le c.retain_if-count.result c.retain_if-count.new.values (drop c.loop-i.count c.loop-i.out) retained.within
          ∙ drop_more (ids c.as_set-in-loop-i.result) all c.loop-i.i (take c.loop-i.count c.loop-i.out) (take c.retain_if-count.result c.retain_if-count.new.values) (omega arith) (omega arith)
          (own ∙ sym c.as_set-in-loop-i.ensures) inv.ids retained.retained;
    }
