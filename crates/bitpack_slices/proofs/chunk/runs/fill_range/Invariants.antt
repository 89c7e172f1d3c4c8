-- The numbers so far are written.
use Rattle.std.proofs.Common.{◌≡◌, length, take}
use Rattle.std.specs.List.{range_with_len}
use Rattle.bitpack_slices.proofs.chunk.runs.fill_range.Given as goal

abbrev pub invariant-loop-index : goal.invariant-loop-index
invariant-loop-index l = record {
  size : length l.out ≡ length l.fn.out;
  values : take l.index l.out ≡ range_with_len l.first l.index;
}
