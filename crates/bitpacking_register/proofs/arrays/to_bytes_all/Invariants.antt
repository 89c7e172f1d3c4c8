-- The bytes of the words so far are written; the others are as they were.
use Rattle.std.proofs.Common.{◌≡◌, ◌*◌, take}
use Rattle.bitpacking_register.specs.Words.{bytes_of_words}
use Rattle.bitpacking_register.proofs.arrays.to_bytes_all.Given as goal

abbrev pub invariant-loop-lane : goal.invariant-loop-lane
invariant-loop-lane g l = take (4 * l.lane) l.bytes ≡ bytes_of_words (take l.lane l.fn.words)
