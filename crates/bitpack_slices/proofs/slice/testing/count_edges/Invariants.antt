-- The slices that are left are still to be counted.
use Rattle.std.proofs.Common.{◌≡◌, ◌+◌, ◌≤◌, drop, length}
use Rattle.bitpack_slices.specs.Falls.{edges}
use Rattle.bitpack_slices.specs.Slices.{numbers_in}
use Rattle.bitpack_slices.proofs.slice.testing.count_edges.Given as goal

abbrev pub invariant-loop-less : goal.invariant-loop-less
invariant-loop-less l = record {
  few : l.count ≤ l.less-index;
  room : l.at + 1 + numbers_in (drop l.less-index l.counts) ≡ length l.window;
  counted : l.count + edges (drop l.less-index l.counts) (drop l.at l.window) ≡ edges l.counts l.window;
}
