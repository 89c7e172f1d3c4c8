-- The numbers so far have their marks.
use Rattle.std.proofs.Common.{◌≡◌, ℕ, ◌<◌, ◌≤◌}
use Rattle.std.specs.Prelude.{slice_index}
use Rattle.bitpack_ranked.proofs.retaining.mark_at_least.Given as goal

abbrev pub invariant-loop-index : goal.invariant-loop-index
invariant-loop-index l =
    (k : ℕ) → k < l.index → (slice_index l.marks k ≤ 1)
    × (slice_index l.marks k ≡ 0 → slice_index l.numbers k < l.least)
    × (slice_index l.marks k ≡ 1 → l.least ≤ slice_index l.numbers k)
