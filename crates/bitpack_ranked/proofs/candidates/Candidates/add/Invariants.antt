-- The words so far are added.
use Rattle.std.proofs.Common.{◌≡◌, ℕ, ◌+◌, ◌-◌, ◌*◌, ◌^◌, ◌<◌, ◌≤◌, Bool, List, drop, length, map, take}
use Rattle.std.specs.Prelude.{slice_index}
use Rattle.bitpack_ranked.specs.Terms.{Word}
use Rattle.bitpack_ranked.specs.inner.Candidates.{AreCandidates, Rise}
use Rattle.bitpack_ranked.specs.inner.Walks.{most_rest}
use Rattle.bitpack_ranked.proofs.candidates.Candidates.add.Given as goal

abbrev pub invariant-loop-index : goal.invariant-loop-index
invariant-loop-index g l =
    (length l.self.ids ≡ 128)
    × (l.self.len ≤ 128)
    × Rise l.self.ids l.self.len
    × (l.rest ≡ most_rest (map g.T.AsTerm.its_word (drop l.index l.left)))
    × (l.rest ≤ (2 ^ 32 - 1) * 2 ^ 31)
    × ((k : ℕ) → k < l.self.len → slice_index l.self.scores k ≤ (2 ^ 32 - 1) * (l.index + 1))
    × ((words before : List Word) (test : ℕ → Bool)
    → AreCandidates words before (map g.T.AsTerm.its_word l.left) l.classes test (length l.found) (take l.len l.found) l.initial.self
    → AreCandidates words before (map g.T.AsTerm.its_word (drop l.index l.left)) l.classes test (length l.found) (take l.len l.found) l.self)
