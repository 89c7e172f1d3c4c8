-- The first slices so far are passed.
use Rattle.std.proofs.Common.{◌≡◌, ◌*◌, ◌≤◌, min, take}
use Rattle.bitpack_slices.proofs.chunk.search.size_of_first.Given as goal
use Rattle.bitpack_slices.specs.Slices.{slices_len}

abbrev pub invariant-loop-i : goal.invariant-loop-i
invariant-loop-i l = record {
  few : l.sum ≤ 32 * l.i;
  passed : l.sum ≡ slices_len (take (min l.i l.many) l.counts);
}
