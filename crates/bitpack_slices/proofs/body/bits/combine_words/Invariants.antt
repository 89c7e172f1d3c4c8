-- The words so far are combined.
use Rattle.bitpack_slices.proofs.lemmas.bits.CombineLaws.{IsWordsMixed}
use Rattle.bitpack_slices.proofs.body.bits.combine_words.Given as goal

abbrev pub invariant-loop-index : goal.invariant-loop-index
invariant-loop-index l = IsWordsMixed l.operation 0 l.index l.fn.words l.words l.others
