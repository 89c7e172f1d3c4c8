-- The chunks so far have no fault.
use Rattle.std.proofs.Common.{◌≡◌, None}
use Rattle.bitpack_wide.specs.WideColumnFaults.{chunk_fault, each_below, first_of, is_in_order, last_before}
use Rattle.bitpack_wide.proofs.wide_column.chunks.test_chunks.Given as goal

abbrev pub invariant-loop-index : goal.invariant-loop-index
invariant-loop-index l = record {
  right : first_of (chunk_fault l.count l.rest) l.index ≡ None;
  order : l.sorted ≡ each_below (is_in_order l.count l.rest) l.index;
  last_is : l.last ≡ last_before l.count l.rest l.index;
}
