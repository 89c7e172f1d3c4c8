-- The words so far are counted.
use Rattle.std.proofs.Common.{◌≡◌, ℕ, ◌<◌, length, map, take}
use Rattle.std.specs.Prelude.{slice_index}
use Rattle.std.specs.List.{count_by}
use Rattle.bitpack_ranked.specs.Ranked.{has_word}
use Rattle.bitpack_ranked.proofs.others.count_others.Given as goal

abbrev pub invariant-loop-index : goal.invariant-loop-index
invariant-loop-index g l = (k : ℕ) → k < length l.ids
    → slice_index l.counts k ≡ count_by (has_word (slice_index l.ids k)) (take l.index (map g.T.AsTerm.its_word l.terms))
