use Rattle.std.proofs.Common.{◌≡◌, ◌+◌, ◌*◌, ◌≤◌, ◌++◌, length, map, take}
use Rattle.bitpack_queries.specs.Folds.{found}
use Rattle.bitpack_slices.specs.Operations.{those}
use Rattle.bitpack_queries.proofs.combining_all.unpack_keys.Given as goal

abbrev pub invariant-loop-k : goal.invariant-loop-k
invariant-loop-k l = record {
  within : l.at ≤ length l.out;
  long : length l.out ≡ length l.fn.out;
  count : l.at ≡ l.fn.at + length (those (65536 * l.k) (found l.highs l.words));
  values : take l.at l.out ≡ take l.fn.at l.fn.out ++ map (λ i. l.fn.base * 65536 + i) (those (65536 * l.k) (found l.highs l.words));
}
