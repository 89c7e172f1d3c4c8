-- The entries and id sets of what is left are still to be written.
use Rattle.std.proofs.Common.{◌≡◌, ◌^◌, length}
use Rattle.bitpack_sets.proofs.ForCallers.{DirectoryLeft}
use Rattle.bitpack_sets.specs.Sets.{encoding}
use Rattle.bitpack_wide.specs.Wide.{lows}
use Rattle.bitpack_wide.proofs.encoding.words.write_entries.Given as goal

abbrev pub invariant-loop-left : goal.invariant-loop-left
invariant-loop-left l = record {
  entries : DirectoryLeft (2 ^ 64) (2 ^ 32) 4 15 encoding l.ids l.left 0 0 l.index l.end l.sum l.end_size l.sum_size l.highs l.ends l.sums l.out;
  low : l.low ≡ lows l.left;
}

abbrev pub decreases-loop-left : goal.decreases-loop-left
decreases-loop-left l = length l.left
