-- What was seen of the differences so far.
use Rattle.std.proofs.Common.{◌≡◌, ◌-◌, ◌≤◌}
use Rattle.bitpack_wide.specs.inner.WideColumnSteps.{Sees, SeesRise, difference_of}
use Rattle.bitpack_wide.proofs.wide_column.seeing.see_both.Given as goal

abbrev pub invariant-loop-from : goal.invariant-loop-from
invariant-loop-from l = record {
  within : l.from ≤ l.chunk.len;
  sees : Sees (difference_of l.chunk) l.from l.seen.zero l.seen.most;
  rises : SeesRise (difference_of l.chunk) l.from l.seen.rises l.seen.last;
  start : l.from ≡ 0 → l.seen.last ≡ 0;
}

abbrev pub decreases-loop-from : goal.decreases-loop-from
decreases-loop-from l = l.chunk.len - l.from
