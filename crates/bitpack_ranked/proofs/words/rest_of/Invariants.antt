-- What the words so far add at most.
use Rattle.std.proofs.Common.{◌≡◌, ◌-◌, ◌*◌, ◌^◌, ◌≤◌, map, take}
use Rattle.bitpack_ranked.specs.inner.Walks.{most_rest}
use Rattle.bitpack_ranked.proofs.words.rest_of.Given as goal

abbrev pub invariant-loop-index : goal.invariant-loop-index
invariant-loop-index g l = (l.rest ≡ most_rest (take l.index (map g.T.AsTerm.its_word l.terms))) × (l.rest ≤ (2 ^ 32 - 1) * l.index)
