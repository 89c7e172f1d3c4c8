-- The runs so far.
use Rattle.std.proofs.Common.{◌+◌, ◌*◌, ◌≤◌, get_or}
use Rattle.bitpack_slices.specs.Slices.{pairs_of}
use Rattle.bitpack_slices.proofs.lemmas.bodies.BoundLaws.{AreRuns}
use Rattle.bitpack_slices.proofs.chunk.bounds.count_in_numbers.Given as goal

abbrev pub invariant-loop-index : goal.invariant-loop-index
invariant-loop-index l = record { few : 2 * l.runs ≤ get_or (pairs_of l.body) l.index 0 + 2; runs : AreRuns l.runs l.index (pairs_of l.body) }
