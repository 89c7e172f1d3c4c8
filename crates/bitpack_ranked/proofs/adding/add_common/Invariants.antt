-- The parts of the documents so far are added, and the next with the word is the next that is common.
use Rattle.std.proofs.Common.{◌≡◌, ℕ, ◌+◌, ◌^◌, ◌<◌, ◌≤◌, drop}
use Rattle.std.specs.Prelude.{slice_index}
use Rattle.std.specs.List.{filter}
use Rattle.bitpack_slices.specs.Reads.{has}
use Rattle.bitpack_ranked.specs.Ranked.{part_in}
use Rattle.bitpack_ranked.proofs.adding.add_common.Given as goal

abbrev pub invariant-loop-index : goal.invariant-loop-index
invariant-loop-index g l =
    (drop l.next l.common ≡ filter (λ x. has x (g.T.AsTerm.its_word l.term).ids) (drop l.index l.ids))
    × ((k : ℕ) → k < l.index
    → (slice_index l.scores k ≡ slice_index l.initial.scores k + part_in l.classes (slice_index l.ids k) (g.T.AsTerm.its_word l.term))
    × (slice_index l.scores k < slice_index l.initial.scores k + 2 ^ 32))
    × ((k : ℕ) → l.index ≤ k → slice_index l.scores k ≡ slice_index l.initial.scores k)
    × (l.next ≤ l.index)
