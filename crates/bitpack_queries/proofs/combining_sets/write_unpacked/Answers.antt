-- The ids of the answer are a set.
use Rattle.std.proofs.Common.{sym, subst}
use Rattle.bitpack_sets.specs.Opened.{ids}
use Rattle.bitpack_sets.specs.Sets.{IsSet}
use Rattle.bitpack_queries.proofs.lemmas.two.GatherLaws.{answer_set}
use Rattle.bitpack_queries.proofs.combining_sets.write_unpacked.Goals as goal

pub write_ids-requires : goal.write_ids-requires
write_ids-requires c = record {
  set = subst IsSet (sym (rw c.unwrap-count.ensures at c.combine_to.ensures.ids)) (answer_set c.args.operation (ids c.args.a.now) (ids c.args.b.now) c.requires.few);
}
