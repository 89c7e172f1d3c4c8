-- The numbers of the runs so far are counted.
use Rattle.std.proofs.Common.{◌≡◌, ◌+◌}
use Rattle.bitpack_slices.proofs.chunk.runs.Runs.rank.Given as goal
use Rattle.bitpack_slices.specs.Reads.{rank}
use Rattle.bitpack_slices.specs.Runs.{runs_from}

abbrev pub invariant-loop-index : goal.invariant-loop-index
invariant-loop-index l = rank l.number (runs_from 0 l.self.bounds.now) ≡ l.below + rank l.number (runs_from l.index l.self.bounds.now)
