-- The bits of the high bytes that are listed are combined, if there are any.
use Rattle.std.proofs.Common.{◌/◌, ap, sym, ◌∙◌, arith}
use Rattle.std.proofs.lemmas.Bool.{false≢true}
use Rattle.bitpack_slices.specs.Operations.{apply}
use Rattle.bitpack_queries.proofs.lemmas.two.AnswerLaws.{listed_has, listed_rise}
use Rattle.bitpack_queries.proofs.lemmas.many.FoldLaws.{none_listed}
use Rattle.bitpack_queries.proofs.folding.combine_words.Goals as goal

pub load-requires-clause-highs : goal.load-requires-clause-highs
load-requires-clause-highs c = listed_rise _ _ c.unpack_bits-count.ensures.values

pub combine-requires : goal.combine-requires
combine-requires c = listed_rise _ _ c.unpack_bits-count.ensures.values

pub returns-then-count-eq0-clause-own : goal.returns-then-count-eq0-clause-own
returns-then-count-eq0-clause-own c x small there =
    absurd (false≢true (sym (none_listed _ _ (x / 256) _ c.unpack_bits-count.ensures.values c.if-count-eq0.true (omega arith)) ∙ there))

pub returns-clause-own : goal.returns-clause-own
returns-clause-own c x small there =
    let member = listed_has _ _ (x / 256) c.unpack_bits-count.ensures.values (omega arith) ∙ there in
    c.combine.ensures.own x small member ∙ ap (apply c.args.operation _) (c.load.ensures x small member)

pub returns-clause-rest : goal.returns-clause-rest
returns-clause-rest c x small none = c.combine.ensures.rest x small (listed_has _ _ (x / 256) c.unpack_bits-count.ensures.values (omega arith) ∙ none)
