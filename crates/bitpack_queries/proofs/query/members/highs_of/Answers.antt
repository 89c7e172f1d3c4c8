use Rattle.std.proofs.Common.{◌/◌, ◌%◌, ap, sym, ◌∙◌, arith}
use Rattle.bitpack_slices.specs.Reads.{has}
use Rattle.bitpack_queries.proofs.lemmas.many.FoldLaws.{no_high}
use Rattle.bitpack_queries.proofs.query.members.highs_of.Goals as goal

pub returns : goal.returns
returns c = λ x h none.
    sym (ap (has x) c.chunks_of-chunks.ensures.ids)
    ∙ c.seek-position.ensures.ids x (omega arith)
    ∙ c.end.ensures.own x h
    ∙ no_high (x % 65536) _ (sym (c.highs.ensures (x % 65536 / 256) (omega arith)) ∙ none)
