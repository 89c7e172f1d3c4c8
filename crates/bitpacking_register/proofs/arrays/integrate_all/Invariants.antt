-- The lanes so far have their sums, and `sum` is the last of them.
use Rattle.std.proofs.Common.{◌≡◌, ◌∷◌, get_or}
use Rattle.bitpacking_register.specs.Deltas.{running_sums}
use Rattle.bitpacking_register.proofs.ArrayLemmas.{written_to}
use Rattle.bitpacking_register.proofs.arrays.integrate_all.Given as goal

abbrev pub invariant-loop-word : goal.invariant-loop-word
invariant-loop-word g l =
    let start = l.initial.sum in
    let words = l.initial.word-items in
    record {
      neighbour : l.sum ≡ get_or (start ∷ running_sums start words) l.word-index 0;
      written : l.word-items ≡ written_to (running_sums start words) words l.word-index;
    }
