-- The lowest bits are passed.
use Rattle.std.proofs.Common.{◌≡◌, drop}
use Rattle.bitpack_slices.proofs.slice.search.select_in_word.Given as goal
use Rattle.bitpack_slices.specs.Slices.{ones_from}

abbrev pub invariant-loop : goal.invariant-loop
invariant-loop l = ones_from l.left 0 64 ≡ drop l.counter (ones_from l.word 0 64)
