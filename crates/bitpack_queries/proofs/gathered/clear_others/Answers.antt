-- The bits of all other high bytes are cleared.
use Rattle.bitpack_queries.proofs.lemmas.many.BodyLaws.{others_cleared}
use Rattle.bitpack_queries.proofs.lemmas.two.AnswerLaws.{listed_rise}
use Rattle.bitpack_queries.proofs.gathered.clear_others.Goals as goal

pub clear_highs-requires : goal.clear_highs-requires
clear_highs-requires c = listed_rise _ _ c.unpack_bits-count.ensures.values

pub returns : goal.returns
returns c x small =
    others_cleared _ _ _ _ _ x small c.combined_words-rest.ensures c.unpack_bits-count.ensures.values (c.clear_highs.ensures.own x small) (c.clear_highs.ensures.rest x small)
