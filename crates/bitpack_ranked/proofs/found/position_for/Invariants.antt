-- The documents so far do not come after it.
use Rattle.std.proofs.Common.{ℕ, ◌<◌}
use Rattle.std.specs.Prelude.{slice_index_or}
use Rattle.bitpack_ranked.specs.Ranked.{ComesBefore}
use Rattle.bitpack_ranked.specs.declared.found.Scored.{Scored}
use Rattle.bitpack_ranked.proofs.found.position_for.Given as goal

abbrev pub invariant-loop-index : goal.invariant-loop-index
invariant-loop-index l = (i : ℕ) (d : Scored) → i < l.index → ComesBefore l.document (slice_index_or l.found i d) → ⊥
