-- The numbers of the words so far are written.
use Rattle.std.proofs.Common.{◌≡◌, ◌+◌, ◌*◌, ◌++◌, length, take}
use Rattle.bitpack_slices.proofs.bitmap.writing.put_bytes.Given as goal
use Rattle.bitpack_slices.specs.Bitmaps.{has_bit}
use Rattle.bitpack_slices.specs.Operations.{those}

abbrev pub invariant-loop-i : goal.invariant-loop-i
invariant-loop-i l = record {
  end : l.next ≡ l.at + length (those (64 * l.i) (has_bit l.bits));
  values : take l.next l.out ≡ take l.at l.fn.out ++ those (64 * l.i) (has_bit l.bits);
}
