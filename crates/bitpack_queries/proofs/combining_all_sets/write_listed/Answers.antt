-- The ids that are listed are a set.
use Rattle.std.proofs.Common.{◌≡◌, ◌∙◌, List, ap, arith, length, map, subst, sym, take, ℕ}
use Rattle.std.proofs.lemmas.List.{length-take}
use Rattle.bitpack_sets.specs.Sets.{IsSet}
use Rattle.bitpack_queries.specs.Operations.{answer_all}
use Rattle.bitpack_queries.proofs.lemmas.many.FoldLaws.{answer_is_set}
use Rattle.bitpack_queries.proofs.combining_all_sets.write_listed.Goals as goal

pub write_ids-requires : goal.write_ids-requires
write_ids-requires g c =
    let numbers : List ℕ = answer_all c.args.operation (map g.S.AsSet.its_ids c.args.sets.now) in
    let same : take c.in-Some.count c.list.new.out ≡ numbers = c.in-Some.ensures.ids in
    let long = sym (ap length same) ∙ length-take c.in-Some.count c.list.new.out in
    let room = c.list.auto.out in
    record { set = subst IsSet (sym same) (answer_is_set c.args.operation (map g.S.AsSet.its_ids c.args.sets.now) (omega arith)) }
