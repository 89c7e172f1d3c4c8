-- No id so far is above.
use Rattle.std.proofs.Common.{◌≡◌, ◌^◌, ◌<◌, drop}
use Rattle.bitpack_sets.specs.Faults.{first_over, ids_from}
use Rattle.bitpack_sets.proofs.few.first_over.Given as goal

abbrev pub invariant-loop-index : goal.invariant-loop-index
invariant-loop-index l = record {
  small : l.id < 2 ^ 32;
  so_far : first_over 0 (ids_from l.fn.first l.codes) ≡ first_over l.index (ids_from l.id (drop l.index l.codes));
}
