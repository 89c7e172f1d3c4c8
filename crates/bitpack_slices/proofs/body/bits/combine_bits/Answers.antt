-- The bits of both bodies are combined.
use Rattle.std.proofs.Common.{◌∙◌}
use Rattle.bitpack_slices.proofs.lemmas.bits.BitmapLaws.{has_none}
use Rattle.bitpack_slices.proofs.lemmas.numbers.AnswerLaws.{each}
use Rattle.bitpack_slices.proofs.body.bits.combine_bits.Goals as goal
use Rattle.bitpack_slices.specs.declared.operation.Operation.TheVariants.{And, Or, AndNot, Xor}

pub set_bits-requires-2-clause-clear : goal.set_bits-requires-2-clause-clear
set_bits-requires-2-clause-clear c x = has_none 1024 x

pub returns-in-And : goal.returns-in-And
returns-in-And c x small = rw c.in-And.is (c.combine_words.ensures x small ∙ each And _ _ _ _ (c.set_bits.ensures x small) (c.set_bits-2.ensures x small))

pub returns-in-Or : goal.returns-in-Or
returns-in-Or c x small = rw c.in-Or.is (c.combine_words-in-Or.ensures x small ∙ each Or _ _ _ _ (c.set_bits.ensures x small) (c.set_bits-2.ensures x small))

pub returns-in-AndNot : goal.returns-in-AndNot
returns-in-AndNot c x small = rw c.in-AndNot.is (c.combine_words-in-AndNot.ensures x small ∙ each AndNot _ _ _ _ (c.set_bits.ensures x small) (c.set_bits-2.ensures x small))

pub returns-in-Xor : goal.returns-in-Xor
returns-in-Xor c x small = rw c.in-Xor.is (c.combine_words-in-Xor.ensures x small ∙ each Xor _ _ _ _ (c.set_bits.ensures x small) (c.set_bits-2.ensures x small))
