-- One lane more has its sum.
use Rattle.std.proofs.Common.{rules, arith}
use Rattle.bitpacking_register.specs.Deltas.{running_sums}
use Rattle.bitpacking_register.proofs.WordLemmas.{AreWords-array}
use Rattle.bitpacking_register.proofs.SumLemmas.{AreWords-running_sums}
use Rattle.bitpacking_register.proofs.ArrayLemmas.{running_sums_step, neighbours_done}
use Rattle.bitpacking_register.proofs.arrays.integrate_all.Goals as goal

pub loop-word-preserved : goal.loop-word-preserved
loop-word-preserved g c =
    let step = running_sums_step _ _ _ _ _ c.loop-word.invariant.neighbour c.loop-word.invariant.written (omega arith) in
    record { neighbour = step.0; written = step.1 }

pub returns : goal.returns
returns g c =
    neighbours_done _ running_sums AreWords-running_sums _ _ _ _ c.loop-word.invariant.written
    (AreWords-array _ _ (search rules) (search rules)) (AreWords-array _ _ (search rules) (search rules)) c.loop-word-test.false
