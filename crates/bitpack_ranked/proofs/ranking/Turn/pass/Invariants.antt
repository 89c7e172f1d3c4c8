-- The documents of the blocks so far are done.
use Rattle.std.proofs.Common.{◌*◌, ◌≤◌, length, map, take}
use Rattle.bitpack_ranked.specs.Ranked.{AreBest}
use Rattle.bitpack_ranked.specs.inner.Walks.{IsLow, IsPastIn}
use Rattle.bitpack_ranked.proofs.ranking.Turn.pass.Given as goal

abbrev pub invariant-loop-block : goal.invariant-loop-block
invariant-loop-block g l =
    (l.len ≤ length l.found)
    × IsLow l.walk.low (g.T.AsTerm.its_word l.self.term.now) l.block
    × AreBest (IsPastIn (map g.T.AsTerm.its_word l.self.before.now) (g.T.AsTerm.its_word l.self.term.now) (map g.T.AsTerm.its_word l.self.after.now)
    l.self.classes.now l.self.at_least (128 * l.block)) (length l.found) (take l.len l.found)
