-- The words so far are counted.
use Rattle.std.proofs.Common.{◌≡◌, ◌≤◌, map, take}
use Rattle.std.specs.List.{count_by}
use Rattle.bitpack_ranked.specs.Ranked.{has_word}
use Rattle.bitpack_ranked.proofs.words.count_words.Given as goal

abbrev pub invariant-loop-index : goal.invariant-loop-index
invariant-loop-index g l = (l.words ≡ count_by (has_word l.id) (take l.index (map g.T.AsTerm.its_word l.terms))) × (l.words ≤ l.index)
