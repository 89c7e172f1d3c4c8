-- The runs so far have only numbers below.
use Rattle.bitpack_slices.proofs.chunk.runs.Runs.seek.Given as goal
use Rattle.bitpack_slices.proofs.lemmas.bodies.SoughtRuns.{RunsBelow}

abbrev pub invariant-loop-index : goal.invariant-loop-index
invariant-loop-index l = RunsBelow l.number l.below l.index l.self.bounds.now
