-- The numbers of the runs so far are counted.
use Rattle.std.proofs.Common.{◌≡◌, ◌+◌, length}
use Rattle.bitpack_slices.proofs.chunk.runs.Runs.len.Given as goal
use Rattle.bitpack_slices.specs.Runs.{runs_from}

abbrev pub invariant-loop-index : goal.invariant-loop-index
invariant-loop-index l = length (runs_from 0 l.self.bounds.now) ≡ l.count + length (runs_from l.index l.self.bounds.now)
