-- One lane more is joined by or.
use Rattle.std.proofs.Common.{rules, arith, bit_or}
use Rattle.bitpacking_register.proofs.WordLemmas.{AreWords-array, or-fits}
use Rattle.bitpacking_register.proofs.ArrayLemmas.{zip2_step, zip2_done}
use Rattle.bitpacking_register.proofs.arrays.or_all.Goals as goal

pub loop-lane-preserved : goal.loop-lane-preserved
loop-lane-preserved g c =
    zip2_step bit_or _ _ _ _ c.loop-lane.invariant (omega arith) (omega arith)

pub returns : goal.returns
returns g c =
    zip2_done _ bit_or or-fits _ _ _ _ c.loop-lane.invariant
    (AreWords-array _ _ (search rules) (search rules)) (AreWords-array _ _ (search rules) (search rules)) c.loop-lane-test.false
