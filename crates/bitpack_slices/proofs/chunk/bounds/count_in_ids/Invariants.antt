-- The runs so far.
use Rattle.std.proofs.Common.{◌+◌, ◌%◌, ◌≤◌, map}
use Rattle.bitpack_slices.proofs.lemmas.bodies.BoundLaws.{AreRuns}
use Rattle.bitpack_slices.proofs.chunk.bounds.count_in_ids.Given as goal

abbrev pub invariant-loop-index : goal.invariant-loop-index
invariant-loop-index l = record { few : l.runs ≤ l.index + 1; runs : AreRuns l.runs l.index (map (λ id. id % 65536) l.ids) }
