-- One lane more is joined by and.
use Rattle.std.proofs.Common.{rules, arith, bit_and}
use Rattle.bitpacking_register.proofs.WordLemmas.{AreWords-array, and-fits}
use Rattle.bitpacking_register.proofs.ArrayLemmas.{zip2_step, zip2_done}
use Rattle.bitpacking_register.proofs.arrays.and_all.Goals as goal

pub loop-lane-preserved : goal.loop-lane-preserved
loop-lane-preserved g c =
    zip2_step bit_and _ _ _ _ c.loop-lane.invariant (omega arith) (omega arith)

pub returns : goal.returns
returns g c =
    zip2_done _ bit_and and-fits _ _ _ _ c.loop-lane.invariant
    (AreWords-array _ _ (search rules) (search rules)) (AreWords-array _ _ (search rules) (search rules)) c.loop-lane-test.false
