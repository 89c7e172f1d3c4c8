-- The high bytes so far have their bits, and no bit is 1 from there on.
use Rattle.bitpack_slices.proofs.lemmas.bits.HighLaws.{AreHighs}
use Rattle.bitpack_slices.proofs.bitmap.writing.high_word.Given as goal

abbrev pub invariant-loop-i : goal.invariant-loop-i
invariant-loop-i l = AreHighs l.words l.first l.i l.bits
