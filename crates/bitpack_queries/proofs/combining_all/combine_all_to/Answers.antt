-- No set has no ids, and two are combined.
use Rattle.std.proofs.Common.{◌≡◌, ℕ, List, IfOk, ap, sym, length, map, take, eqb-true, subst, ◌∙◌, arith}
use Rattle.std.proofs.lemmas.List.{length-map}
use Rattle.bitpack_sets.specs.Opened.{ids}
use Rattle.bitpack_queries.proofs.lemmas.many.FoldLaws.{set_ids}
use Rattle.bitpack_queries.proofs.lemmas.many.PickLaws.{none_of_none, two_sets}
use Rattle.bitpack_queries.proofs.combining_all.combine_all_to.Goals as goal

pub returns-then-is_empty-clause-ids : goal.returns-then-is_empty-clause-ids
returns-then-is_empty-clause-ids g c =
    sym (none_of_none c.args.operation (map g.S.AsSet.its_ids c.args.sets.now)
    (length-map c.args.sets.now g.S.AsSet.its_ids ∙ eqb-true _ _ (sym c.is_empty.ensures ∙ c.if-is_empty.true)))

pub returns-then-is_empty-clause-len : goal.returns-then-is_empty-clause-len
returns-then-is_empty-clause-len g c =
    ap length (sym (none_of_none c.args.operation (map g.S.AsSet.its_ids c.args.sets.now)
    (length-map c.args.sets.now g.S.AsSet.its_ids ∙ eqb-true _ _ (sym c.is_empty.ensures ∙ c.if-is_empty.true))))

pub returns-then-sets-eq2-clause-ids : goal.returns-then-sets-eq2-clause-ids
returns-then-sets-eq2-clause-ids g c =
    let f = g.S.AsSet.its_ids in
    let two = c.if-sets-eq2.true in
    subst (λ (zs : List ℕ). IfOk c.combine_to.result (λ len. take len c.combine_to.new.out ≡ zs))
    (two_sets c.args.operation (ids c.as_set.result) (ids c.as_set-then-sets-eq2.result) (map f c.args.sets.now) (length-map c.args.sets.now f ∙ two)
    (set_ids f c.args.sets.now 0 c.index-sets-0.result (omega arith) c.index-sets-0.is ∙ sym c.as_set.ensures)
    (set_ids f c.args.sets.now 1 c.index-sets-1.result (omega arith) c.index-sets-1.is ∙ sym c.as_set-then-sets-eq2.ensures))
    c.combine_to.ensures.ids
