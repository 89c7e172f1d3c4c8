-- The numbers of the bits that are left come next.
use Rattle.std.proofs.Common.{◌≡◌, ◌+◌, ◌++◌, length, map, take}
use Rattle.bitpack_slices.proofs.bitmap.bodies.put_ones.Given as goal
use Rattle.bitpack_slices.specs.Slices.{ones_from}

abbrev pub invariant-loop-left : goal.invariant-loop-left
invariant-loop-left l = record {
  count : l.next + length (ones_from l.left 0 64) ≡ l.at + length (ones_from l.word 0 64);
  values : take l.next l.out ++ map (λ i. l.base + i) (ones_from l.left 0 64) ≡ take l.at l.fn.out ++ map (λ i. l.base + i) (ones_from l.word 0 64);
}

abbrev pub decreases-loop-left : goal.decreases-loop-left
decreases-loop-left l = length (ones_from l.left 0 64)
