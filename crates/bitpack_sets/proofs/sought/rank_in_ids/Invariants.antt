-- The ids that are passed are below the target.
use Rattle.std.proofs.Common.{◌-◌, ◌≤◌, length}
use Rattle.bitpack_slices.specs.Reads.{rank}
use Rattle.bitpack_sets.proofs.sought.rank_in_ids.Given as goal

abbrev pub invariant-loop-passed : goal.invariant-loop-passed
invariant-loop-passed l = record {
  within : l.passed ≤ length l.ids;
  below : l.passed ≤ rank l.target l.ids;
}

abbrev pub decreases-loop-passed : goal.decreases-loop-passed
decreases-loop-passed l = length l.ids - l.passed
