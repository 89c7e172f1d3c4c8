-- The numbers of the words so far are written.
use Rattle.std.proofs.Common.{◌≡◌, ◌+◌, ◌*◌, ◌≤◌, ◌++◌, length, map, take}
use Rattle.bitpack_slices.proofs.lemmas.slices.SelectionLaws.{passes}
use Rattle.bitpack_slices.proofs.lemmas.bits.UnpackLaws.{by_high}
use Rattle.bitpack_slices.proofs.blocks.combining.unpack_each.Given as goal
use Rattle.bitpack_slices.specs.Bitmaps.{has_bit}
use Rattle.bitpack_slices.specs.Operations.{those}

abbrev pub invariant-loop-word : goal.invariant-loop-word
invariant-loop-word g l = record {
  room : l.next ≤ length l.out;
  count : l.next ≡ l.at + length (by_high (passes l.operation l.a l.b) (those (64 * l.word) (has_bit l.occur)));
  values : take l.next l.out ≡ take l.at l.fn.out ++ map (λ i. l.base + i) (by_high (passes l.operation l.a l.b) (those (64 * l.word) (has_bit l.occur)));
}
