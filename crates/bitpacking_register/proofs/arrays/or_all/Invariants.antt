-- The lanes so far are joined by or; the others are as they were.
use Rattle.std.proofs.Common.{◌≡◌, bit_or}
use lib.Lanes.{zip2}
use Rattle.bitpacking_register.proofs.ArrayLemmas.{written_to}
use Rattle.bitpacking_register.proofs.arrays.or_all.Given as goal

abbrev pub invariant-loop-lane : goal.invariant-loop-lane
invariant-loop-lane g l = l.word-items ≡ written_to (zip2 bit_or l.initial.word-items l.right) l.initial.word-items l.lane
