-- The sums of the row so far.
use Rattle.std.proofs.Common.{◌≡◌, ◌+◌, map, take}
use Rattle.bitpack_slices.proofs.bitmap.writing.put_byte.Given as goal

abbrev pub invariant-loop-i : goal.invariant-loop-i
invariant-loop-i l = take l.i l.window ≡ map (λ x. l.base + x) (take l.i l.row)
