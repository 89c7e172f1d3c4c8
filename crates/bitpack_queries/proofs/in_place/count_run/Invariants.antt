use Rattle.std.proofs.Common.{◌≡◌, ◌≤◌, length, take}
use Rattle.std.specs.List.{filter}
use Rattle.bitpack_sets.specs.Chunks.{ids_from}
use Rattle.bitpack_slices.specs.Reads.{has}
use Rattle.bitpack_queries.proofs.in_place.count_run.Given as goal

abbrev pub invariant-loop-i : goal.invariant-loop-i
invariant-loop-i l = record {
  few : l.count ≤ l.i;
  goes_on : l.fn.count ≡ length (filter (λ x. has x (ids_from l.set 0)) (take l.fn.index l.values)) → l.count ≡ length (filter (λ x. has x (ids_from l.set 0)) (take l.i l.values));
}
