-- The documents that have one of the words so far are done.
use Rattle.std.proofs.Common.{◌≤◌, length, map, take}
use Rattle.bitpack_ranked.specs.Ranked.{AreBest}
use Rattle.bitpack_ranked.specs.inner.Walks.{IsPast}
use Rattle.bitpack_ranked.proofs.ranking.best_bounded.Given as goal

abbrev pub invariant-loop-index : goal.invariant-loop-index
invariant-loop-index g l =
    (l.len ≤ length l.found)
    × AreBest (IsPast (map g.T.AsTerm.its_word l.terms) l.classes l.at_least l.index) (length l.found) (take l.len l.found)
