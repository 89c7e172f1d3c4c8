-- The ids so far are written, and none is too large.
use Rattle.std.proofs.Common.{◌≡◌, ◌+◌, ◌^◌, ◌<◌, ◌++◌, drop, length, take}
use Rattle.bitpack_sets.specs.Faults.{first_over, ids_from}
use Rattle.bitpack_sets.proofs.few.add_up.Given as goal

abbrev pub invariant-loop-index : goal.invariant-loop-index
invariant-loop-index l = record {
  long : length l.out ≡ length l.fn.out;
  small : l.id < 2 ^ 32;
  so_far : first_over 0 (ids_from l.fn.first l.codes) ≡ first_over l.index (ids_from l.id (drop l.index l.codes));
  values : take (l.index + 1) l.out ++ drop 1 (ids_from l.id (drop l.index l.codes)) ≡ ids_from l.fn.first l.codes;
}
