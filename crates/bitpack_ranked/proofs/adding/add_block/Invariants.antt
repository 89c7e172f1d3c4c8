-- The parts of the documents so far are added, and the ids before an index of the block are below the others.
use Rattle.std.proofs.Common.{◌≡◌, ℕ, ◌+◌, ◌^◌, ◌<◌, ◌≤◌, ◌⊎◌, length}
use Rattle.std.specs.Prelude.{slice_index}
use Rattle.bitpack_ranked.specs.Ranked.{part_in}
use Rattle.bitpack_ranked.proofs.adding.add_block.Given as goal

abbrev pub invariant-loop-index : goal.invariant-loop-index
invariant-loop-index g l =
    (l.next ≤ l.index)
    × (l.at ≤ length l.its)
    × ((j k : ℕ) → j < l.at → l.index ≤ k → k < length l.ids → slice_index l.its j < slice_index l.ids k)
    × ((k : ℕ) → l.next ≤ k → k < l.index
    → (slice_index l.scores k ≡ slice_index l.initial.scores k + part_in l.classes (slice_index l.ids k) (g.T.AsTerm.its_word l.term))
    × (slice_index l.scores k < slice_index l.initial.scores k + 2 ^ 32))
    × ((k : ℕ) → (k < l.next) ⊎ (l.index ≤ k) → slice_index l.scores k ≡ slice_index l.initial.scores k)
