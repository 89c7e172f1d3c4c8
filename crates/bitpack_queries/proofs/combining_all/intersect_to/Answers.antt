-- A set more picks the ids that it has. The two sets that are combined before need not.
use Rattle.std.proofs.Common.{◌^◌, ℕ, List, [], drop, get_or, length, length-append, map, take, ap, sym, ◌∙◌, arith}
use Rattle.std.proofs.lemmas.List.{length-map, length-take-le, take-append-le}
use Rattle.bitpack_sets.specs.Opened.{ids}
use Rattle.bitpack_slices.proofs.ForCallers.{those_same}
use Rattle.bitpack_queries.proofs.lemmas.many.FoldLaws.{set_ids}
use Rattle.bitpack_queries.proofs.lemmas.many.PickLaws.{common_all, common_first, common_second, pick_more}
use Rattle.bitpack_queries.proofs.combining_all.intersect_to.Goals as goal
use Rattle.bitpack_queries.proofs.combining_all.intersect_to.Goals.{then-i-a+then-i-b, else-i-a, else-i-a-via-then-i-a+else-i-b, else-i-a-via-else-i-a}

pub loop-i-preserved : goal.loop-i-preserved
loop-i-preserved g c =
    let inv = c.loop-i.invariant in
    let f = g.S.AsSet.its_ids in
    let all : List (List ℕ) = map f c.args.sets.now in
    let long = length-map c.args.sets.now f in
    let inside = c.loop-i-test.true in
    elim c.if-i-a.branch [
      | then-i-a+then-i-b w ↦ (
          let own = set_ids f c.args.sets.now c.loop-i.i w.index-sets-i.result inside w.index-sets-i.is in
          let retained = w.retain_if-count.ensures in
          let few = retained.within in
          rw (w.out-is, w.count-is) (record {
            within = (let all = length-append w.retain_if-count.new.values (drop c.loop-i.count c.loop-i.out) in omega arith);
            ids = take-append-le w.retain_if-count.result w.retain_if-count.new.values (drop c.loop-i.count c.loop-i.out) retained.within
                ∙ pick_more (get_or all c.args.a []) (get_or all c.args.b []) (ids w.as_set-then-i-b.result) all c.loop-i.i (take c.loop-i.count c.loop-i.out)
                (take w.retain_if-count.result w.retain_if-count.new.values) (omega arith) (own ∙ sym w.as_set-then-i-b.ensures) inv.ids retained.retained;
          }))
      | else-i-a w ↦ rw (w.out-is, w.count-is) (record {
        within = inv.within;
        ids = inv.ids ∙ those_same (2 ^ 32) _ _ (λ x small. sym (elim w.else-i-a.branch [
          | else-i-a-via-then-i-a+else-i-b w' ↦
              common_second (get_or all c.args.a []) (get_or all c.args.b []) all c.loop-i.i x (omega arith) (ap (λ (k : ℕ). get_or all k []) w'.if-i-b.false)
          | else-i-a-via-else-i-a w' ↦
              common_first (get_or all c.args.a []) (get_or all c.args.b []) all c.loop-i.i x (omega arith) (ap (λ (k : ℕ). get_or all k []) w'.if-i-a.false)
        ]));
      })
    ]

pub returns-clause-ids : goal.returns-clause-ids
returns-clause-ids g c =
    let f = g.S.AsSet.its_ids in
    let long = length-map c.args.sets.now f in
    let past = c.loop-i-test.false in
    let two = c.requires.within in
    c.loop-i.invariant.ids ∙ those_same (2 ^ 32) _ _ (λ x small. common_all (map f c.args.sets.now) c.args.a c.args.b c.loop-i.i x (omega arith) (omega arith) (omega arith))

pub returns-clause-len : goal.returns-clause-len
returns-clause-len g c = sym (length-take-le c.loop-i.count c.loop-i.out c.loop-i.invariant.within) ∙ ap length (returns-clause-ids g c)
