use Rattle.std.proofs.Common.{◌≤◌, ◌-◌, length}
use Rattle.bitpack_sets.specs.Chunks.{ids_from}
use Rattle.bitpack_queries.specs.Retained.{IsRetained, retains}
use Rattle.bitpack_queries.proofs.in_place.retain_if.Given as goal

abbrev pub invariant-loop-index : goal.invariant-loop-index
invariant-loop-index l = record {
  retained : IsRetained (retains l.there (ids_from l.chunks 0)) l.initial.values l.values l.retained l.index;
  within : l.index ≤ length l.values;
}

abbrev pub decreases-loop-index : goal.decreases-loop-index
decreases-loop-index l = length l.values - l.index
