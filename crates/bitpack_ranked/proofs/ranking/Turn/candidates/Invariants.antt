-- The documents so far have their parts.
use Rattle.std.proofs.Common.{◌≡◌, ℕ, ◌^◌, ◌<◌, length}
use Rattle.std.specs.Prelude.{slice_index}
use Rattle.bitpack_ranked.specs.Scores.{part_at}
use Rattle.bitpack_ranked.proofs.ranking.Turn.candidates.Given as goal

abbrev pub invariant-loop-index : goal.invariant-loop-index
invariant-loop-index g l =
    (length l.ids ≡ 128)
    × (length l.scores ≡ 128)
    × ((k : ℕ) → k < l.index → (slice_index l.ids k ≡ slice_index l.walk.ids k)
    × (slice_index l.scores k ≡ part_at (g.T.AsTerm.its_word l.self.term.now).table (slice_index l.walk.counts k) (slice_index l.self.classes.now (slice_index l.walk.ids k)))
    × (slice_index l.scores k < 2 ^ 32))
