use Rattle.std.proofs.Common.{◌≡◌, ◌*◌, ◌/◌, ◌-◌, ◌≤◌, map}
use Rattle.bitpack_queries.specs.Folds.{AreHeld, swapped}
use Rattle.bitpack_queries.specs.Operations.{answer_all}
use Rattle.bitpack_queries.proofs.lemmas.two.AnswerLaws.{Counted}
use Rattle.bitpack_queries.proofs.lemmas.many.KeysLaws.{left_from}
use Rattle.bitpack_queries.proofs.combining_all.fold_count.Given as goal

abbrev pub invariant-loop-base : goal.invariant-loop-base
invariant-loop-base g l = record {
  most : l.base ≤ 65536;
  whole : l.base / 8 * 8 ≡ l.base;
  held : AreHeld l.held l.base (swapped l.first (map g.S.AsSet.its_ids l.sets));
  counted : Counted l.count (answer_all l.operation (map g.S.AsSet.its_ids l.sets)) (left_from l.operation l.first (map g.S.AsSet.its_ids l.sets) l.base);
}

abbrev pub decreases-loop-base : goal.decreases-loop-base
decreases-loop-base g l = 65536 - l.base
