-- One lane more is joined.
use Rattle.std.proofs.Common.{rules, bit_or, arith}
use Rattle.bitpacking_register.proofs.WordLemmas.{AreWords-array}
use Rattle.bitpacking_register.proofs.ArrayLemmas.{fold_done}
use Rattle.bitpacking_register.proofs.arrays.or_lanes_all.Goals as goal

pub returns : goal.returns
returns g c =
    fold_done _ bit_or _ c.loop-word.word-index _ c.loop-word.invariant
    (AreWords-array _ _ (search rules) (search rules)) (omega arith)
