-- The bytes so far are written.
use Rattle.std.proofs.Common.{◌≡◌, ◌+◌, ◌*◌, ◌++◌, map, take}
use Rattle.bitpack_slices.proofs.slice.positions.unpack_32.Given as goal

abbrev pub invariant-loop-i : goal.invariant-loop-i
invariant-loop-i l = take (l.at + 8 * l.i) l.out ≡ take l.at l.fn.out ++ map (λ i. l.base + i) (take (8 * l.i) l.bytes)
