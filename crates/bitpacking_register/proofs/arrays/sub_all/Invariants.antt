-- The lanes so far are subtracted; the others are as they were.
use Rattle.std.proofs.Common.{◌≡◌}
use Rattle.bitpacking_register.specs.Words.{wrapping_difference}
use lib.Lanes.{zip2}
use Rattle.bitpacking_register.proofs.ArrayLemmas.{written_to}
use Rattle.bitpacking_register.proofs.arrays.sub_all.Given as goal

abbrev pub invariant-loop-lane : goal.invariant-loop-lane
invariant-loop-lane g l = l.word-items ≡ written_to (zip2 wrapping_difference l.initial.word-items l.right) l.initial.word-items l.lane
