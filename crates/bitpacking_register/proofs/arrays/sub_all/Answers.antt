-- One lane more is subtracted.
use Rattle.std.proofs.Common.{rules, arith}
use Rattle.bitpacking_register.specs.Words.{wrapping_difference}
use Rattle.bitpacking_register.proofs.WordLemmas.{AreWords-array, wrapping_difference-fits}
use Rattle.bitpacking_register.proofs.ArrayLemmas.{zip2_step, zip2_done}
use Rattle.bitpacking_register.proofs.arrays.sub_all.Goals as goal

pub loop-lane-preserved : goal.loop-lane-preserved
loop-lane-preserved g c =
    zip2_step wrapping_difference _ _ _ _ c.loop-lane.invariant (omega arith) (omega arith)

pub returns : goal.returns
returns g c =
    zip2_done _ wrapping_difference (λ x y _ _. wrapping_difference-fits x y) _ _ _ _ c.loop-lane.invariant
    (AreWords-array _ _ (search rules) (search rules)) (AreWords-array _ _ (search rules) (search rules)) c.loop-lane-test.false
