-- The numbers of the runs before are passed.
use Rattle.bitpack_slices.proofs.chunk.runs.Runs.run_of.Given as goal
use Rattle.bitpack_slices.proofs.lemmas.bodies.RunLaws.{InRuns}

abbrev pub invariant-loop-left : goal.invariant-loop-left
invariant-loop-left l = InRuns l.self.bounds.now l.index l.left l.position

abbrev pub decreases-loop-left : goal.decreases-loop-left
decreases-loop-left l = l.left
