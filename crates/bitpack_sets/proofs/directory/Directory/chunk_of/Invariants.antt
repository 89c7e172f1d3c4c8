-- The chunk is among those that are left.
use Rattle.std.proofs.Common.{◌+◌, ◌<◌, ◌≤◌}
use Rattle.bitpack_sets.proofs.directory.Directory.chunk_of.Given as goal
use Rattle.bitpack_sets.specs.Directory.{before, sum_at}

abbrev pub invariant-loop-left : goal.invariant-loop-left
invariant-loop-left l = record {
  some : 0 < l.left;
  within : l.chunk + l.left ≤ l.self.chunks;
  from : before (sum_at l.self.chunks l.self.rest.now) l.chunk ≤ l.position;
  below : l.position < before (sum_at l.self.chunks l.self.rest.now) (l.chunk + l.left);
}

abbrev pub decreases-loop-left : goal.decreases-loop-left
decreases-loop-left l = l.left
