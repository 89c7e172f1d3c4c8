-- The documents so far have their marks.
use Rattle.std.proofs.Common.{◌≡◌, ℕ, ◌+◌, ◌<◌, ◌≤◌, length, take}
use Rattle.std.specs.Prelude.{slice_index}
use Rattle.bitpack_ranked.specs.inner.Candidates.{IsBeaten}
use Rattle.bitpack_ranked.proofs.retaining.mark_best.Given as goal

abbrev pub invariant-loop-index : goal.invariant-loop-index
invariant-loop-index l =
    (k : ℕ) → k < l.index → (slice_index l.marks k ≤ 1)
    × (slice_index l.marks k ≡ 0 → IsBeaten (length l.found) (take l.len l.found) (slice_index l.bounds k + l.rest) (slice_index l.ids k))
