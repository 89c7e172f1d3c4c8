-- The bits of the high bytes that occur are loaded.
use Rattle.std.proofs.Common.{◌/◌, sym, ◌∙◌, arith}
use Rattle.bitpack_queries.specs.Folds.{has_number}
use Rattle.bitpack_queries.proofs.lemmas.two.AnswerLaws.{listed_has, listed_rise}
use Rattle.bitpack_queries.proofs.lemmas.many.FoldLaws.{no_high, part_own}
use Rattle.bitpack_queries.proofs.folding.take_chunk.Goals as goal

pub load-requires-clause-highs : goal.load-requires-clause-highs
load-requires-clause-highs c = listed_rise _ _ c.unpack_bits-count.ensures.values

pub returns : goal.returns
unfolding has_number
returns c x small =
    sym (part_own _ _ _ (λ none. no_high x _ (sym (c.highs.ensures (x / 256) (omega arith)) ∙ none))
    (λ there. c.load.ensures x small (listed_has _ _ (x / 256) c.unpack_bits-count.ensures.values (omega arith) ∙ there)))
