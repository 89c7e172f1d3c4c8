-- The parts of the documents of the blocks so far are added, and the others are after them.
use Rattle.std.proofs.Common.{◌≡◌, ℕ, ◌+◌, ◌^◌, ◌<◌, ◌≤◌, length}
use Rattle.std.specs.Prelude.{slice_index}
use Rattle.bitpack_ranked.specs.Ranked.{part_in}
use Rattle.bitpack_ranked.specs.inner.Walks.{IsAfter}
use Rattle.bitpack_ranked.proofs.adding.add_blocks.Given as goal

abbrev pub invariant-loop-block : goal.invariant-loop-block
invariant-loop-block g l =
    (l.next ≤ length l.ids)
    × ((k : ℕ) → k < l.next
    → (slice_index l.scores k ≡ slice_index l.initial.scores k + part_in l.classes (slice_index l.ids k) (g.T.AsTerm.its_word l.term))
    × (slice_index l.scores k < slice_index l.initial.scores k + 2 ^ 32))
    × ((k : ℕ) → l.next ≤ k → slice_index l.scores k ≡ slice_index l.initial.scores k)
    × ((k : ℕ) → l.next ≤ k → k < length l.ids → IsAfter (g.T.AsTerm.its_word l.term) l.block (slice_index l.ids k))
