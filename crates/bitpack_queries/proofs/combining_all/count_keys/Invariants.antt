use Rattle.std.proofs.Common.{◌≡◌, ◌*◌, length}
use Rattle.bitpack_queries.specs.Folds.{found}
use Rattle.bitpack_slices.specs.Operations.{those}
use Rattle.bitpack_queries.proofs.combining_all.count_keys.Given as goal

abbrev pub invariant-loop-k : goal.invariant-loop-k
invariant-loop-k l = l.count ≡ length (those (65536 * l.k) (found l.highs l.words))
