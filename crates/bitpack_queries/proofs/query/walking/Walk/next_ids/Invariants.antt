use Rattle.std.proofs.Common.{length, map, ◌-◌, ◌≡◌, ◌^◌, ◌≤◌, ◌++◌, take}
use Rattle.bitpack_slices.specs.Reads.{ids_from}
use Rattle.bitpack_queries.specs.Queries.{IsLoaded, answer_of, is_found}
use Rattle.bitpack_queries.proofs.query.walking.Walk.next_ids.Given as goal

abbrev pub invariant-loop-at : goal.invariant-loop-at
invariant-loop-at g l = record {
  within : l.at ≤ length l.out;
  room : length l.out ≡ length l.fn.out;
  levels : length l.bitmaps ≡ length l.fn.bitmaps;
  loaded : IsLoaded (is_found (map g.S.AsSet.its_ids l.sets) (map g.T.AsStep.its_step l.steps)) l.self.key l.self.highs l.bitmaps;
  ids : take l.at l.out ++ ids_from l.self.next (answer_of (map g.S.AsSet.its_ids l.sets) (map g.T.AsStep.its_step l.steps))
      ≡ ids_from l.fn.self.next (answer_of (map g.S.AsSet.its_ids l.sets) (map g.T.AsStep.its_step l.steps));
}

abbrev pub decreases-loop-at : goal.decreases-loop-at
decreases-loop-at g l = 2 ^ 32 - l.self.next
