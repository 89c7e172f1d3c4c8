-- Bounds of the parts of the documents so far are added.
use Rattle.std.proofs.Common.{◌≡◌, ℕ, ◌+◌, ◌^◌, ◌<◌, ◌≤◌}
use Rattle.std.specs.Prelude.{slice_index}
use Rattle.bitpack_ranked.specs.Ranked.{part_in}
use Rattle.bitpack_ranked.proofs.bounds.bound_word.Given as goal

abbrev pub invariant-loop-index : goal.invariant-loop-index
invariant-loop-index g l =
    ((k : ℕ) → k < l.index
    → (slice_index l.initial.bounds k + part_in l.classes (slice_index l.ids k) (g.T.AsTerm.its_word l.term) ≤ slice_index l.bounds k)
    × (slice_index l.bounds k < slice_index l.initial.bounds k + 2 ^ 32))
    × ((k : ℕ) → l.index ≤ k → slice_index l.bounds k ≡ slice_index l.initial.bounds k)
