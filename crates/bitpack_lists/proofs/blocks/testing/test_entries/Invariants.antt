-- The entries so far have no fault.
use Rattle.std.proofs.Common.{◌≡◌, ◌*◌, ◌≤◌, None}
use Rattle.bitpack_lists.specs.Version2.{entry_fault2, first_fault, widths_before}
use Rattle.bitpack_lists.proofs.blocks.testing.test_entries.Given as goal

abbrev pub invariant-loop-block : goal.invariant-loop-block
invariant-loop-block l = record {
  right : first_fault (entry_fault2 l.rest) l.block ≡ None;
  widths_is : l.widths ≡ widths_before l.rest l.block;
  few : l.widths ≤ 32 * l.block;
}
