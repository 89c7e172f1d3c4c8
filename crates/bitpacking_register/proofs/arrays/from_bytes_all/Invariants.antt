-- The words so far are read.
use Rattle.std.proofs.Common.{◌≡◌}
use Rattle.bitpacking_register.specs.Words.{words_of_bytes}
use Rattle.bitpacking_register.proofs.ArrayLemmas.{written_to}
use Rattle.bitpacking_register.proofs.arrays.from_bytes_all.Given as goal

abbrev pub invariant-loop-lane : goal.invariant-loop-lane
invariant-loop-lane g l = l.word-items ≡ written_to (words_of_bytes l.bytes) l.initial.word-items l.lane
