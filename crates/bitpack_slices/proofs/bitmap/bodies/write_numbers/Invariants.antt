-- The numbers of the words so far are written.
use Rattle.std.proofs.Common.{◌≡◌, ◌*◌, length, take}
use Rattle.bitpack_slices.proofs.bitmap.bodies.write_numbers.Given as goal
use Rattle.bitpack_slices.specs.Bitmaps.{has_bit}
use Rattle.bitpack_slices.specs.Bodies.{numbers}
use Rattle.bitpack_slices.specs.Operations.{those}

abbrev pub invariant-loop-index : goal.invariant-loop-index
invariant-loop-index l = record {
  size : length l.out ≡ length l.fn.out;
  end : l.next ≡ length (those (64 * l.index) (has_bit l.words));
  values : take (2 * l.next) l.out ≡ numbers (those (64 * l.index) (has_bit l.words));
}
