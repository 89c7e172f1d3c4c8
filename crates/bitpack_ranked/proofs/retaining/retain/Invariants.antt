-- Of the documents so far those with a mark are retained, and the others are where they were.
use Rattle.std.proofs.Common.{◌≡◌, ℕ, ◌≤◌}
use Rattle.std.specs.Prelude.{slice_index}
use Rattle.bitpack_ranked.specs.inner.Candidates.{AreMarked, AreRetained}
use Rattle.bitpack_ranked.proofs.retaining.retain.Given as goal

abbrev pub invariant-loop-index : goal.invariant-loop-index
invariant-loop-index l =
    (l.count ≤ l.index)
    × AreRetained (λ k. slice_index l.marks k ≡ 0) l.initial.ids l.initial.scores l.index l.ids l.scores l.count
    × AreMarked (λ k. slice_index l.marks k ≡ 1) l.initial.ids l.index l.ids l.count
    × ((k : ℕ) → l.index ≤ k → (slice_index l.ids k ≡ slice_index l.initial.ids k) × (slice_index l.scores k ≡ slice_index l.initial.scores k))
