-- The slices so far are passed.
use Rattle.std.proofs.Common.{◌≡◌, ◌*◌, ◌≤◌, take}
use Rattle.bitpack_slices.proofs.chunk.search.size_of_slices.Given as goal
use Rattle.bitpack_slices.specs.Slices.{slices_len}

abbrev pub invariant-loop-less : goal.invariant-loop-less
invariant-loop-less l = record {
  few : l.sum ≤ 32 * l.less-index;
  passed : l.sum ≡ slices_len (take l.less-index l.counts);
}
