-- The bits of the high bytes so far are combined.
use Rattle.std.proofs.Common.{take}
use Rattle.bitpack_slices.proofs.lemmas.bits.CombineLaws.{IsMixed}
use Rattle.bitpack_slices.proofs.bitmap.combining.combine.Given as goal

abbrev pub invariant-loop-high : goal.invariant-loop-high
invariant-loop-high l = IsMixed l.operation (take l.high-index l.highs) l.fn.words l.words l.others
