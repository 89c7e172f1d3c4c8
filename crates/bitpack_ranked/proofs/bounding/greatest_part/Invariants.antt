-- No part so far is greater.
use Rattle.std.proofs.Common.{ℕ, ◌<◌, ◌≤◌}
use Rattle.std.specs.Prelude.{slice_index}
use Rattle.bitpack_ranked.specs.Scores.{part_at}
use Rattle.bitpack_ranked.proofs.bounding.greatest_part.Given as goal

abbrev pub invariant-loop-index : goal.invariant-loop-index
invariant-loop-index g l = (k : ℕ) → k < l.index
    → part_at (g.T.AsTerm.its_word l.term).table (slice_index l.walk.counts k) (slice_index l.classes (slice_index l.walk.ids k)) ≤ l.most
