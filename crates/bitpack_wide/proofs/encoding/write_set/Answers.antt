-- Each form is written.
use Rattle.std.proofs.Common.{Bool, cond, length, sym, ap, ◌∙◌}
use Rattle.bitpack_wide.proofs.FormLaws.{spread_is, words_are}
use Rattle.bitpack_wide.proofs.encoding.write_set.Goals as goal
use Rattle.bitpack_wide.specs.Wide.{highs, lows}

pub write_spread-requires-clause-size : goal.write_spread-requires-clause-size
write_spread-requires-clause-size c =
    c.requires.size ∙ ap length (spread_is c.args.ids.now c.args.measured.words c.requires.measured.words_is (sym c.is_spread.ensures ∙ c.if-is_spread.true))

pub write_spread-requires-clause-space : goal.write_spread-requires-clause-space
write_spread-requires-clause-space c =
    c.requires.space ∙ ap (λ (b : Bool). cond b (highs c.args.ids.now) (lows c.args.ids.now)) (sym c.is_spread.ensures ∙ c.if-is_spread.true)

pub write_words-requires-clause-lows : goal.write_words-requires-clause-lows
write_words-requires-clause-lows c =
    c.requires.space ∙ ap (λ (b : Bool). cond b (highs c.args.ids.now) (lows c.args.ids.now)) (sym c.is_spread.ensures ∙ c.if-is_spread.false)

pub write_words-requires-clause-room : goal.write_words-requires-clause-room
write_words-requires-clause-room c =
    c.requires.size ∙ ap length (words_are c.args.ids.now c.args.measured.words c.requires.measured.words_is (sym c.is_spread.ensures ∙ c.if-is_spread.false))

pub write_words-requires-clause-size : goal.write_words-requires-clause-size
write_words-requires-clause-size c = c.requires.measured.bytes_is (sym c.is_spread.ensures ∙ c.if-is_spread.false)

pub returns-then-is_spread : goal.returns-then-is_spread
returns-then-is_spread c =
    c.write_spread.ensures ∙ sym (spread_is c.args.ids.now c.args.measured.words c.requires.measured.words_is (sym c.is_spread.ensures ∙ c.if-is_spread.true))

pub returns-else-is_spread : goal.returns-else-is_spread
returns-else-is_spread c =
    c.write_words.ensures ∙ sym (words_are c.args.ids.now c.args.measured.words c.requires.measured.words_is (sym c.is_spread.ensures ∙ c.if-is_spread.false))
