-- One word more is read.
use Rattle.std.proofs.Common.{rules}
use Rattle.bitpacking_register.proofs.WordLemmas.{AreWords-loaded}
use Rattle.bitpacking_register.proofs.ArrayLemmas.{load_step, load_done}
use Rattle.bitpacking_register.proofs.arrays.from_bytes_all.Goals as goal

pub loop-lane-preserved : goal.loop-lane-preserved
loop-lane-preserved g c =
    load_step _ _ _ _ _ c.loop-lane.invariant
    (AreWords-loaded _ _ c.requires c.type_inv.bytes) c.loop-lane-test.true (search rules) c.from_bytes.ensures

pub returns : goal.returns
returns g c =
    load_done _ _ _ _ c.loop-lane.invariant
    (AreWords-loaded _ _ c.requires c.type_inv.bytes) c.loop-lane-test.false
