-- The position is among those that are left.
use Rattle.bitpack_sets.proofs.lemmas.reads.WalkLaws.{IsSought}
use Rattle.bitpack_sets.proofs.chunks.Chunks.seek.Given as goal
use Rattle.bitpack_sets.specs.Chunks.{ids_from, positions}

abbrev pub invariant-loop-left : goal.invariant-loop-left
invariant-loop-left l = IsSought (positions l.self) (ids_from l.self) l.position l.key l.low l.left

abbrev pub decreases-loop-left : goal.decreases-loop-left
decreases-loop-left l = l.left
