-- The bytes of one word more are written.
use Rattle.std.proofs.Common.{rules, arith}
use Rattle.bitpacking_register.proofs.WordLemmas.{AreWords-array}
use Rattle.bitpacking_register.proofs.ArrayLemmas.{store_step, store_done}
use Rattle.bitpacking_register.proofs.arrays.to_bytes_all.Goals as goal

pub loop-lane-preserved : goal.loop-lane-preserved
loop-lane-preserved g c =
    store_step _ _ _ _ c.loop-lane.invariant c.to_bytes.ensures
    (search rules) (omega arith) (omega arith)

pub returns : goal.returns
returns g c =
    store_done _ _ _ _ c.loop-lane.invariant
    (AreWords-array _ _ (search rules) (search rules)) (omega arith) (omega arith)
