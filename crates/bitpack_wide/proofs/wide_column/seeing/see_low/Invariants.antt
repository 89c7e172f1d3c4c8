-- What was seen of the numbers so far.
use Rattle.std.proofs.Common.{◌-◌, ◌≤◌}
use Rattle.bitpack_wide.specs.inner.WideColumnSteps.{Sees, difference_of}
use Rattle.bitpack_wide.proofs.wide_column.seeing.see_low.Given as goal

abbrev pub invariant-loop-from : goal.invariant-loop-from
invariant-loop-from l = record {
  within : l.from ≤ l.chunk.len;
  sees : Sees (difference_of l.chunk) l.from l.zero l.most;
}

abbrev pub decreases-loop-from : goal.decreases-loop-from
decreases-loop-from l = l.chunk.len - l.from
