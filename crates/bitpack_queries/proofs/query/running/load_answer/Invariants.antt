use Rattle.std.proofs.Common.{◌≡◌, ℕ, ◌/◌, ◌%◌, ◌≤◌, [], true, length, map, take, drop, None}
use Rattle.bitpack_slices.specs.Operations.{apply}
use Rattle.bitpack_queries.specs.Queries.{evaluate, fault_from, passes}
use Rattle.bitpack_slices.specs.Reads.{has}
use Rattle.bitpack_queries.proofs.lemmas.trees.QueryLaws.{IsBit, Stored}
use Rattle.bitpack_queries.proofs.query.running.load_answer.Given as goal

abbrev pub invariant-loop-i : goal.invariant-loop-i
invariant-loop-i g l = record {
  levels : length l.bitmaps ≡ length l.fn.bitmaps;
  few : l.depth ≤ length l.fn.bitmaps;
  sound : fault_from (length l.fn.bitmaps) (length l.sets) l.i l.depth (drop l.i (map g.T.AsStep.its_step l.steps)) ≡ None;
  stored : (x : ℕ) → x / 65536 ≡ l.key → has (x % 65536 / 256) l.highs ≡ true → Stored (IsBit x) [] l.bitmaps l.depth (evaluate apply (take l.i (map g.T.AsStep.its_step l.steps)) (passes (has x) (map g.S.AsSet.its_ids l.sets)));
}
