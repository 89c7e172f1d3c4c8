-- The ids so far are counted.
use Rattle.std.proofs.Common.{◌≡◌, ◌+◌, ◌≤◌, drop}
use Rattle.bitpack_sets.proofs.few.count_below.Given as goal
use Rattle.bitpack_slices.specs.Reads.{rank}

abbrev pub invariant-loop-other : goal.invariant-loop-other
invariant-loop-other l = record {
  few : l.count ≤ l.other-index;
  counted : l.count + rank l.id (drop l.other-index l.ids) ≡ rank l.id l.ids;
}
