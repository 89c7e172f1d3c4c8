-- The ids that are left are still to be counted.
use Rattle.std.proofs.Common.{◌≡◌, ◌+◌, ◌≤◌, drop}
use Rattle.bitpack_sets.proofs.lemmas.written.CountedRuns.{lasts}
use Rattle.bitpack_sets.proofs.encoding.measuring.count_within.Given as goal

abbrev pub invariant-loop-index : goal.invariant-loop-index
invariant-loop-index l = record {
  few : l.count ≤ l.index;
  counted : l.count + lasts l.most (drop l.index l.ids) ≡ lasts l.most l.ids;
}
