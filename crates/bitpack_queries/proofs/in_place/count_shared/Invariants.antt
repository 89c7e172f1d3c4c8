use Rattle.std.proofs.Common.{◌≡◌, ◌≤◌, ◌-◌, length, take}
use Rattle.std.specs.List.{filter}
use Rattle.bitpack_sets.specs.Chunks.{ids_from}
use Rattle.bitpack_slices.specs.Reads.{has}
use Rattle.bitpack_queries.proofs.in_place.count_shared.Given as goal

abbrev pub invariant-loop-index : goal.invariant-loop-index
invariant-loop-index l = record {
  few : l.count ≤ l.index;
  within : l.index ≤ length l.values;
  counted : l.count ≡ length (filter (λ x. has x (ids_from l.chunks 0)) (take l.index l.values));
}

abbrev pub decreases-loop-index : goal.decreases-loop-index
decreases-loop-index l = length l.values - l.index
