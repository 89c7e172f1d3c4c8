-- The bytes of the words so far are written.
use Rattle.std.proofs.Common.{◌≡◌, ◌*◌, length, take}
use Rattle.bitpack_slices.proofs.bitmap.writing.write_words.Given as goal
use Rattle.bitpack_slices.specs.Bitmaps.{has_bit}
use Rattle.bitpack_slices.specs.Bodies.{bits, le_bytes}
use Rattle.bitpack_slices.specs.Operations.{those}

abbrev pub invariant-loop-index : goal.invariant-loop-index
invariant-loop-index l = record {
  size : length l.out ≡ 8 * length l.words;
  written : take (8 * l.index) l.out ≡ le_bytes (8 * l.index) (bits (those (64 * l.index) (has_bit l.words)));
}
