use Rattle.std.proofs.Common.{◌≡◌, ◌≤◌, ℕ, List, drop, length}
use Rattle.bitpack_sets.specs.Chunks.{ids_from}
use Rattle.bitpack_queries.specs.Retained.{IsRetained, retains}
use Rattle.bitpack_queries.proofs.in_place.retain_run.Given as goal

abbrev pub invariant-loop-i : goal.invariant-loop-i
invariant-loop-i l = record {
  goes_on : (all : List ℕ) → IsRetained (retains l.there (ids_from l.set 0)) all l.initial.values l.fn.retained l.fn.index → IsRetained (retains l.there (ids_from l.set 0)) all l.values l.retained l.i;
  rest : drop l.i l.values ≡ drop l.i l.initial.values;
  behind : l.retained ≤ l.i;
  long : length l.values ≡ length l.initial.values;
}
