-- The lanes so far are joined by and; the others are as they were.
use Rattle.std.proofs.Common.{◌≡◌, bit_and}
use lib.Lanes.{zip2}
use Rattle.bitpacking_register.proofs.ArrayLemmas.{written_to}
use Rattle.bitpacking_register.proofs.arrays.and_all.Given as goal

abbrev pub invariant-loop-lane : goal.invariant-loop-lane
invariant-loop-lane g l = l.word-items ≡ written_to (zip2 bit_and l.initial.word-items l.right) l.initial.word-items l.lane
