-- One lane more has its difference.
use Rattle.std.proofs.Common.{rules, arith}
use Rattle.bitpacking_register.specs.Deltas.{differences}
use Rattle.bitpacking_register.proofs.WordLemmas.{AreWords-array}
use Rattle.bitpacking_register.proofs.SumLemmas.{AreWords-differences}
use Rattle.bitpacking_register.proofs.ArrayLemmas.{differences_step, neighbours_done}
use Rattle.bitpacking_register.proofs.arrays.delta_all.Goals as goal

pub loop-slot-preserved : goal.loop-slot-preserved
loop-slot-preserved g c =
    let step = differences_step _ _ _ _ _ c.loop-slot.invariant.neighbour c.loop-slot.invariant.written (omega arith) in
    record { neighbour = step.0; written = step.1 }

pub returns : goal.returns
returns g c =
    neighbours_done _ differences AreWords-differences _ _ _ _ c.loop-slot.invariant.written
    (AreWords-array _ _ (search rules) (search rules)) (AreWords-array _ _ (search rules) (search rules)) c.loop-slot-test.false
