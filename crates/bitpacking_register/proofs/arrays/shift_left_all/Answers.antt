-- One lane more is shifted.
use Rattle.std.proofs.Common.{rules, arith}
use Rattle.bitpacking_register.specs.Words.{shifted_left}
use Rattle.bitpacking_register.proofs.WordLemmas.{AreWords-array, shifted_left-fits}
use Rattle.bitpacking_register.proofs.ArrayLemmas.{map_step, map_done}
use Rattle.bitpacking_register.proofs.arrays.shift_left_all.Goals as goal

pub loop-word-preserved : goal.loop-word-preserved
loop-word-preserved g c =
    map_step (shifted_left c.args.shift) _ _ _ c.loop-word.invariant (omega arith)

pub returns : goal.returns
returns g c =
    map_done _ (shifted_left c.args.shift) (λ x _. shifted_left-fits c.args.shift x) _ _ _ c.loop-word.invariant
    (AreWords-array _ _ (search rules) (search rules)) c.loop-word-test.false
