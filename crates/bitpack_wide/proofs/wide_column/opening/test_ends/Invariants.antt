-- The ends so far do not fall.
use Rattle.std.proofs.Common.{◌≡◌, None}
use Rattle.bitpack_sets.specs.Directory.{before}
use Rattle.bitpack_wide.specs.WideColumnFaults.{end_fault, first_of}
use Rattle.bitpack_wide.specs.WideColumnReads.{end_at}
use Rattle.bitpack_wide.proofs.wide_column.opening.test_ends.Given as goal

abbrev pub invariant-loop-part : goal.invariant-loop-part
invariant-loop-part l = record {
  right : first_of (end_fault l.chunks l.rest) l.part ≡ None;
  before_is : l.before ≡ before (end_at l.chunks l.rest) l.part;
}
