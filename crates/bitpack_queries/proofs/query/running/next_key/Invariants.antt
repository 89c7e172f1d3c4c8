use Rattle.std.proofs.Common.{◌≡◌, ℕ, ◌/◌, ◌<◌, ◌≤◌, length, map, take, drop, None}
use Rattle.bitpack_slices.specs.Operations.{apply, can_give}
use Rattle.bitpack_queries.specs.Queries.{evaluate, fault_from, has_keys, passes}
use Rattle.bitpack_slices.specs.Reads.{has}
use Rattle.bitpack_queries.proofs.lemmas.trees.QueryLaws.{Before, Reaches, Stored}
use Rattle.bitpack_queries.proofs.query.running.next_key.Given as goal

abbrev pub invariant-loop-i : goal.invariant-loop-i
invariant-loop-i g l = record {
  room : length l.keys ≡ 64;
  few : l.depth ≤ 64;
  sound : fault_from 64 (length l.sets) l.i l.depth (drop l.i (map g.T.AsStep.its_step l.steps)) ≡ None;
  stored : (x : ℕ) → l.from ≤ x / 65536 → Stored (Before l.from x) 0 l.keys l.depth (evaluate apply (take l.i (map g.T.AsStep.its_step l.steps)) (passes (has x) (map g.S.AsSet.its_ids l.sets)));
  reached : (to : ℕ) → to < 65536 → Stored (Reaches to) 0 l.keys l.depth (evaluate can_give (take l.i (map g.T.AsStep.its_step l.steps)) (passes (has_keys l.from to) (map g.S.AsSet.its_ids l.sets)));
}
