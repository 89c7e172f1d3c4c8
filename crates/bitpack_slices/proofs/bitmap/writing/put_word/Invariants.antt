-- The numbers of the bytes so far are written.
use Rattle.std.proofs.Common.{◌≡◌, ◌+◌, ◌*◌, ◌++◌, length, map, take}
use Rattle.bitpack_slices.proofs.bitmap.writing.put_word.Given as goal
use Rattle.bitpack_slices.specs.Slices.{ones_from}

abbrev pub invariant-loop-i : goal.invariant-loop-i
invariant-loop-i l = record {
  end : l.next ≡ l.at + length (ones_from l.word 0 (8 * l.i));
  values : take l.next l.out ≡ take l.at l.fn.out ++ map (λ i. l.base + i) (ones_from l.word 0 (8 * l.i));
}
