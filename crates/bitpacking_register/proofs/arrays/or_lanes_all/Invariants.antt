-- The lanes so far are joined.
use Rattle.std.proofs.Common.{◌≡◌, bit_or, take}
use Rattle.std.specs.List.{fold}
use Rattle.bitpacking_register.proofs.arrays.or_lanes_all.Given as goal

abbrev pub invariant-loop-word : goal.invariant-loop-word
invariant-loop-word g l = l.all ≡ fold bit_or 0 (take l.word-index l.fn.words)
