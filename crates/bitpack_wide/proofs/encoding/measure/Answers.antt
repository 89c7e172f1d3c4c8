-- The measures of each form, and the words that are left in the space.
use Rattle.std.proofs.Common.{Bool, cond, sym, ap, ◌∙◌}
use Rattle.bitpack_wide.proofs.FormLaws.{spread_measured, words_measured}
use Rattle.bitpack_wide.proofs.encoding.measure.Goals as goal
use Rattle.bitpack_wide.specs.Wide.{highs, lows}

pub returns-then-is_spread-clause-measured : goal.returns-then-is_spread-clause-measured
returns-then-is_spread-clause-measured c =
    spread_measured c.args.ids.now c.measure_spread-len.result c.args.words c.requires.words c.requires.few (sym c.is_spread.ensures ∙ c.if-is_spread.true) c.measure_spread-len.ensures.len

pub returns-then-is_spread-clause-space : goal.returns-then-is_spread-clause-space
returns-then-is_spread-clause-space c =
    c.measure_spread-len.ensures.highs ∙ sym (ap (λ (b : Bool). cond b (highs c.args.ids.now) (lows c.args.ids.now)) (sym c.is_spread.ensures ∙ c.if-is_spread.true))

pub returns-clause-measured : goal.returns-clause-measured
returns-clause-measured c =
    words_measured c.args.ids.now c.words_len-len.result c.args.words c.measure_bodies-bodies.result c.requires.words c.requires.few (sym c.is_spread.ensures ∙ c.if-is_spread.false)
    c.measure_bodies-bodies.ensures.size c.measure_bodies-bodies.ensures.small c.words_len-len.ensures

pub returns-clause-space : goal.returns-clause-space
returns-clause-space c =
    c.requires.space ∙ sym (ap (λ (b : Bool). cond b (highs c.args.ids.now) (lows c.args.ids.now)) (sym c.is_spread.ensures ∙ c.if-is_spread.false))
