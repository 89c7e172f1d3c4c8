use Rattle.std.proofs.Common.{◌≡◌, ℕ, ◌/◌, ◌≤◌, [], length, map, take, drop, None}
use Rattle.bitpack_slices.specs.Operations.{apply}
use Rattle.bitpack_queries.specs.Queries.{evaluate, fault_from, passes}
use Rattle.bitpack_slices.specs.Reads.{has}
use Rattle.bitpack_queries.proofs.lemmas.trees.QueryLaws.{Stored, Covers}
use Rattle.bitpack_queries.proofs.query.running.all_highs.Given as goal

abbrev pub invariant-loop-i : goal.invariant-loop-i
invariant-loop-i g l = record {
  room : length l.all ≡ 64;
  few : l.depth ≤ 64;
  sound : fault_from 64 (length l.sets) l.i l.depth (drop l.i (map g.T.AsStep.its_step l.steps)) ≡ None;
  stored : (x : ℕ) → x / 65536 ≡ l.key → Stored (Covers x) [] l.all l.depth (evaluate apply (take l.i (map g.T.AsStep.its_step l.steps)) (passes (has x) (map g.S.AsSet.its_ids l.sets)));
}
