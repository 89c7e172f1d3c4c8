-- The lanes so far have their differences, and `before` is the word before the next.
use Rattle.std.proofs.Common.{◌≡◌, ◌∷◌, get_or}
use Rattle.bitpacking_register.specs.Deltas.{differences}
use Rattle.bitpacking_register.proofs.ArrayLemmas.{written_to}
use Rattle.bitpacking_register.proofs.arrays.delta_all.Given as goal

abbrev pub invariant-loop-slot : goal.invariant-loop-slot
invariant-loop-slot g l =
    let start = l.initial.before in
    let words = l.initial.slot-items in
    record {
      neighbour : l.before ≡ get_or (start ∷ words) l.slot-index 0;
      written : l.slot-items ≡ written_to (differences start words) words l.slot-index;
    }
