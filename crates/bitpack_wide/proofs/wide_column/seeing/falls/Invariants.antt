-- The values so far rise.
use Rattle.std.proofs.Common.{◌≡◌, ◌-◌, ◌≤◌, true, length, slice_index}
use Rattle.bitpack_columns.specs.Opened.{values}
use Rattle.bitpack_wide.specs.inner.WideColumnSteps.{SeesRise}
use Rattle.bitpack_wide.proofs.wide_column.seeing.falls.Given as goal

abbrev pub invariant-loop-from : goal.invariant-loop-from
invariant-loop-from l = record {
  within : l.from ≤ length (values l.column);
  rises : SeesRise (slice_index (values l.column)) l.from true l.last;
  start : l.from ≡ 0 → l.last ≡ 0;
}

abbrev pub decreases-loop-from : goal.decreases-loop-from
decreases-loop-from l = length (values l.column) - l.from
