-- The blocks so far have their bounds.
use Rattle.std.proofs.Common.{ℕ, ◌<◌}
use Rattle.std.specs.Prelude.{slice_index}
use Rattle.bitpack_ranked.specs.Bounds.{IsBound}
use Rattle.bitpack_ranked.proofs.bounding.bound_blocks.Given as goal

abbrev pub invariant-loop-block : goal.invariant-loop-block
invariant-loop-block g l = (m : ℕ) → m < l.block → IsBound l.classes (g.T.AsTerm.its_word l.term) m (slice_index l.bounds m)
