-- The high word is among those that are left.
use Rattle.std.proofs.Common.{◌+◌, ◌<◌, ◌≤◌}
use Rattle.bitpack_wide.specs.Directory.{before, sum_at}
use Rattle.bitpack_wide.proofs.directory.Directory.word_of.Given as goal

abbrev pub invariant-loop-left : goal.invariant-loop-left
invariant-loop-left l = record {
  some : 0 < l.left;
  within : l.word + l.left ≤ l.self.words;
  from : before (sum_at l.self.words l.self.rest.now) l.word ≤ l.position;
  below : l.position < before (sum_at l.self.words l.self.rest.now) (l.word + l.left);
}

abbrev pub decreases-loop-left : goal.decreases-loop-left
decreases-loop-left l = l.left
