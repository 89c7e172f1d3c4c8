-- The ids so far are below the other.
use Rattle.std.proofs.Common.{ℕ, ◌<◌, ◌≤◌}
use Rattle.std.specs.Prelude.{slice_index}
use Rattle.bitpack_ranked.proofs.adding.first_from.Given as goal

abbrev pub invariant-loop-index : goal.invariant-loop-index
invariant-loop-index l = (l.at ≤ l.index) × ((k : ℕ) → l.at ≤ k → k < l.index → slice_index l.ids k < l.id)
