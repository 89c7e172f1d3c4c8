-- The words so far are combined.
use Rattle.std.proofs.Common.{◌*◌}
use Rattle.bitpack_slices.proofs.lemmas.bits.CombineLaws.{IsWordsMixed}
use Rattle.bitpack_slices.proofs.bitmap.combining.combine_slice.Given as goal

abbrev pub invariant-loop-i : goal.invariant-loop-i
invariant-loop-i l = IsWordsMixed l.operation (4 * l.high) l.i l.fn.words l.words l.others
