-- The words so far are counted.
use Rattle.std.proofs.Common.{◌≡◌, ◌*◌, length}
use Rattle.bitpack_slices.proofs.bitmap.bodies.count_words.Given as goal
use Rattle.bitpack_slices.specs.Bitmaps.{has_bit}
use Rattle.bitpack_slices.specs.Operations.{those}

abbrev pub invariant-loop-word : goal.invariant-loop-word
invariant-loop-word l = l.count ≡ length (those (64 * l.word-index) (has_bit l.words))
