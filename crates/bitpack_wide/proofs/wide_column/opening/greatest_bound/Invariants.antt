-- The greatest bound so far.
use Rattle.std.proofs.Common.{◌≡◌}
use Rattle.bitpack_groups.specs.Numbers.{greatest}
use Rattle.bitpack_wide.specs.WideColumnReads.{bound_at}
use Rattle.bitpack_wide.proofs.wide_column.opening.greatest_bound.Given as goal

abbrev pub invariant-loop-index : goal.invariant-loop-index
invariant-loop-index l = l.most ≡ greatest (bound_at l.rest) l.index
