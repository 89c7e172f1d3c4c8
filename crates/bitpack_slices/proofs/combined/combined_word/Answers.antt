-- Bit by bit.
use Rattle.bitpack_slices.proofs.lemmas.bits.CombineLaws.{word_and, word_and_not, word_or, word_xor}
use Rattle.bitpack_slices.proofs.combined.combined_word.Goals as goal

pub returns-in-And : goal.returns-in-And
returns-in-And c i = rw c.in-And.is (word_and c.args.a c.args.b i)

pub returns-in-Or : goal.returns-in-Or
returns-in-Or c i = rw c.in-Or.is (word_or c.args.a c.args.b i)

pub returns-in-AndNot : goal.returns-in-AndNot
returns-in-AndNot c i = rw c.in-AndNot.is (word_and_not c.args.a c.args.b i c.ranges.a.fits c.ranges.b.fits)

pub returns-in-Xor : goal.returns-in-Xor
returns-in-Xor c i = rw c.in-Xor.is (word_xor c.args.a c.args.b i)
