use Rattle.std.proofs.Common.{◌≤◌, ◌-◌, drop, length, take}
use Rattle.bitpack_sets.specs.Opened.{ids}
use Rattle.bitpack_queries.proofs.lemmas.two.UnitedLaws.{IsUniting}
use Rattle.bitpack_queries.proofs.in_place.unite.Given as goal

abbrev pub invariant-loop-id : goal.invariant-loop-id
invariant-loop-id l = record {
  so : IsUniting (drop l.start l.initial.values) (ids l.set) (take l.written l.values) (drop l.from l.values) (drop l.left.window.next (ids l.left.set)) l.written l.from;
  within : l.from ≤ length l.values;
}

abbrev pub decreases-loop-id : goal.decreases-loop-id
decreases-loop-id l = length (ids l.left.set) - l.left.window.next
