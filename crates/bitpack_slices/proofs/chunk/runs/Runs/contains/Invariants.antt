-- The number is in a run so far, or in one of those that are left.
use Rattle.std.proofs.Common.{◌≡◌, ◌||◌}
use Rattle.bitpack_slices.proofs.chunk.runs.Runs.contains.Given as goal
use Rattle.bitpack_slices.specs.Reads.{has}
use Rattle.bitpack_slices.specs.Runs.{runs_from}

abbrev pub invariant-loop-index : goal.invariant-loop-index
invariant-loop-index l = has l.number (runs_from 0 l.self.bounds.now) ≡ (l.found || has l.number (runs_from l.index l.self.bounds.now))
