use Rattle.std.proofs.Common.{◌≡◌, ◌≤◌, ◌^◌, [], get_or, length, map, take}
use Rattle.bitpack_slices.specs.Operations.{those}
use Rattle.bitpack_queries.proofs.lemmas.many.PickLaws.{common}
use Rattle.bitpack_queries.proofs.combining_all.intersect_to.Given as goal

abbrev pub invariant-loop-i : goal.invariant-loop-i
invariant-loop-i g l = record {
  within : l.count ≤ length l.out;
  ids : take l.count l.out ≡ those (2 ^ 32) (common (get_or (map g.S.AsSet.its_ids l.sets) l.a []) (get_or (map g.S.AsSet.its_ids l.sets) l.b []) (map g.S.AsSet.its_ids l.sets) l.i);
}
