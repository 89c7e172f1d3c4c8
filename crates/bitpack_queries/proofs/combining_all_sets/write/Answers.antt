-- No set and two sets are written as such.
use Rattle.std.proofs.Common.{◌∙◌, List, arith, eqb-true, map, subst, sym, ℕ}
use Rattle.std.proofs.lemmas.List.{length-map}
use Rattle.bitpack_sets.specs.Opened.{ids}
use Rattle.bitpack_queries.specs.Gathered.{Fills}
use Rattle.bitpack_queries.specs.Operations.{answer_all}
use Rattle.bitpack_queries.proofs.lemmas.many.FoldLaws.{set_ids}
use Rattle.bitpack_queries.proofs.lemmas.many.PickLaws.{none_of_none, two_sets}
use Rattle.bitpack_queries.proofs.combining_all_sets.write.Goals as goal

pub write_ids-requires : goal.write_ids-requires
write_ids-requires g c = record { set = record { few = omega arith; rising = omega arith } }

pub returns-then-is_empty : goal.returns-then-is_empty
returns-then-is_empty g c =
    subst (λ (zs : List ℕ). Fills zs c.write_ids.result c.args.out.now c.write_ids.new.out)
    (sym (none_of_none c.args.operation (map g.S.AsSet.its_ids c.args.sets.now)
    (length-map c.args.sets.now g.S.AsSet.its_ids ∙ eqb-true _ _ (sym c.is_empty.ensures ∙ c.if-is_empty.true))))
    c.write_ids.ensures

pub returns-then-room_len-room : goal.returns-then-room_len-room
returns-then-room_len-room g c =
    let f = g.S.AsSet.its_ids in
    let two = c.if-sets-eq2.true in
    subst (λ (zs : List ℕ). Fills zs c.write.result c.args.out.now c.write.new.out)
    (two_sets c.args.operation (ids c.as_set.result) (ids c.as_set-then-sets-eq2.result) (map f c.args.sets.now) (length-map c.args.sets.now f ∙ two)
    (set_ids f c.args.sets.now 0 c.index-sets-0.result (omega arith) c.index-sets-0.is ∙ sym c.as_set.ensures)
    (set_ids f c.args.sets.now 1 c.index-sets-1.result (omega arith) c.index-sets-1.is ∙ sym c.as_set-then-sets-eq2.ensures))
    c.write.ensures

pub returns-in-None : goal.returns-in-None
returns-in-None g c =
    subst (λ (old : List ℕ). Fills (answer_all c.args.operation (map g.S.AsSet.its_ids c.args.sets.now)) c.write_chunks.result old c.write_chunks.new.out)
    (c.write_listed.ensures.none c.in-None.is) c.write_chunks.ensures
