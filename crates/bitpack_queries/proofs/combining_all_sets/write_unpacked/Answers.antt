-- The ids of the answer are a set.
use Rattle.std.proofs.Common.{◌≡◌, List, map, subst, sym, take, ℕ}
use Rattle.bitpack_sets.specs.Sets.{IsSet}
use Rattle.bitpack_queries.specs.Operations.{answer_all}
use Rattle.bitpack_queries.proofs.lemmas.many.FoldLaws.{answer_is_set}
use Rattle.bitpack_queries.proofs.combining_all_sets.write_unpacked.Goals as goal

pub write_ids-requires : goal.write_ids-requires
write_ids-requires g c =
    let numbers : List ℕ = answer_all c.args.operation (map g.S.AsSet.its_ids c.args.sets.now) in
    let same : take c.unwrap-count.result c.combine_all_to.new.out ≡ numbers = rw c.unwrap-count.ensures at c.combine_all_to.ensures.ids in
    record { set = subst IsSet (sym same) (answer_is_set c.args.operation (map g.S.AsSet.its_ids c.args.sets.now) c.requires.few) }
