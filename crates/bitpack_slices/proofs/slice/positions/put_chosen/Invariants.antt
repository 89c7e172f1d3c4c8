-- The bytes so far are written.
use Rattle.std.proofs.Common.{◌≡◌, ◌+◌, ◌*◌, ◌++◌, get_or, length, map, take}
use Rattle.bitpack_slices.proofs.slice.positions.put_chosen.Given as goal
use Rattle.bitpack_slices.specs.Slices.{ones_from}

abbrev pub invariant-loop-i : goal.invariant-loop-i
invariant-loop-i l = record {
  end : l.next ≡ l.at + length (ones_from l.matches 0 (8 * l.i));
  values : take l.next l.out ≡ take l.at l.fn.out ++ map (λ i. get_or l.bytes i 0) (ones_from l.matches 0 (8 * l.i));
}
