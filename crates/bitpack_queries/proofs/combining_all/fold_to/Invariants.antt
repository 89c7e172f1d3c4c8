use Rattle.std.proofs.Common.{◌≡◌, ◌*◌, ◌/◌, ◌-◌, ◌≤◌, length, map}
use Rattle.bitpack_queries.specs.Folds.{AreHeld, swapped}
use Rattle.bitpack_queries.specs.Operations.{answer_all}
use Rattle.bitpack_queries.proofs.lemmas.two.AnswerLaws.{Written}
use Rattle.bitpack_queries.proofs.lemmas.many.KeysLaws.{left_from}
use Rattle.bitpack_queries.proofs.combining_all.fold_to.Given as goal

abbrev pub invariant-loop-base : goal.invariant-loop-base
invariant-loop-base g l = record {
  most : l.base ≤ 65536;
  whole : l.base / 8 * 8 ≡ l.base;
  held : AreHeld l.held l.base (swapped l.first (map g.S.AsSet.its_ids l.sets));
  written : Written l.out l.at (answer_all l.operation (map g.S.AsSet.its_ids l.sets)) (left_from l.operation l.first (map g.S.AsSet.its_ids l.sets) l.base);
  long : length l.out ≡ length l.fn.out;
}

abbrev pub decreases-loop-base : goal.decreases-loop-base
decreases-loop-base g l = 65536 - l.base
