-- Those that are left are still to be counted.
use Rattle.std.proofs.Common.{◌≡◌, ◌+◌, ◌≤◌, drop, length}
use Rattle.bitpack_slices.proofs.lemmas.bodies.PartialLaws.{partial}
use Rattle.bitpack_slices.proofs.chunk.bounds.count_partial.Given as goal

abbrev pub invariant-loop-less : goal.invariant-loop-less
invariant-loop-less l = record {
  few : l.count ≤ l.less-index;
  counted : l.count + length (partial (drop l.less-index l.counts)) ≡ length (partial l.counts);
}
