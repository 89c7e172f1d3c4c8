-- The ends so far have no fault.
use Rattle.std.proofs.Common.{◌≡◌, None}
use Rattle.bitpack_columns.specs.Faults.{end_fault, first_of}
use Rattle.bitpack_columns.specs.Reads.{begin_at}
use Rattle.bitpack_columns.proofs.opening.blocks.test_ends_of.Given as goal

abbrev pub invariant-loop-block : goal.invariant-loop-block
invariant-loop-block l = record {
  right : first_of (end_fault l.rest) l.block ≡ None;
  before_is : l.before ≡ begin_at l.rest l.block;
}
