-- The lanes so far are shifted; the others are as they were.
use Rattle.std.proofs.Common.{◌≡◌, map}
use Rattle.bitpacking_register.specs.Words.{shifted_right}
use Rattle.bitpacking_register.proofs.ArrayLemmas.{written_to}
use Rattle.bitpacking_register.proofs.arrays.shift_right_all.Given as goal

abbrev pub invariant-loop-word : goal.invariant-loop-word
invariant-loop-word g l = l.word-items ≡ written_to (map (shifted_right l.shift) l.initial.word-items) l.initial.word-items l.word-index
