-- The missing values so far have the differences of those before them.
use Rattle.std.proofs.Common.{◌≡◌, ◌+◌, ◌-◌, ◌≤◌, true}
use Rattle.bitpack_slices.specs.Reads.{has}
use Rattle.bitpack_sets.specs.Opened.{ids}
use Rattle.bitpack_wide.specs.WideColumnFaults.{each_below}
use Rattle.bitpack_wide.specs.inner.WideColumnSteps.{IsLast, difference_of, is_as_before}
use Rattle.bitpack_wide.proofs.wide_column.filling.are_as_before.Given as goal

abbrev pub invariant-loop-from : goal.invariant-loop-from
invariant-loop-from l = record {
  within : l.from ≤ l.chunk.len;
  right : each_below (is_as_before (λ k. has (l.begin + k) (ids l.missing)) (difference_of l.chunk)) l.from ≡ true;
  last : IsLast (difference_of l.chunk) l.from l.last;
}

abbrev pub decreases-loop-from : goal.decreases-loop-from
decreases-loop-from l = l.chunk.len - l.from
