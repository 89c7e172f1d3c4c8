-- The candidates so far are passed.
use Rattle.std.proofs.Common.{◌≡◌, ℕ, ◌≤◌, Bool, [], List, length, map, take, true, false}
use Rattle.bitpack_ranked.specs.Ranked.{AreBest, IsScored}
use Rattle.bitpack_ranked.specs.Terms.{Word}
use Rattle.bitpack_ranked.specs.inner.Candidates.{AreCandidates}
use Rattle.bitpack_ranked.proofs.ManySteps.{passed}
use Rattle.bitpack_ranked.proofs.candidates.Candidates.select.Given as goal

abbrev pub invariant-loop-index : goal.invariant-loop-index
invariant-loop-index g l =
    (l.len ≤ length l.found)
    × ((words : List Word) (classes : List ℕ) (test old : ℕ → Bool)
    → AreCandidates words (map g.T.AsTerm.its_word l.before) [] classes test (length l.initial.found) (take l.initial.len l.initial.found) l.self
    → ((id : ℕ) → test id ≡ true → old id ≡ false)
    → AreBest (IsScored old words classes) (length l.initial.found) (take l.initial.len l.initial.found)
    → AreBest (IsScored (passed old test (take l.self.len l.self.ids) l.index) words classes) (length l.found) (take l.len l.found))
