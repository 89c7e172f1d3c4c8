-- A line feed ends the line, and another byte goes on with it.
use Rattle.std.proofs.Common.{◌≡◌, [], ◌∷◌, ◌++◌, IfErr, rules, sym, subst}
use Rattle.bitpack.specs.Lines.{AnsweredSoFar, AppendsAnswer, StopsAtAnswer, StopsWithin, lines, unfinished}
use Rattle.bitpack.proofs.LineLemmas.{not_feed}
use Rattle.bitpack.proofs.BufferedBytes.{IfErr-to}
use Rattle.bitpack.proofs.RunSteps.{feed_step, feed_stop, other_step, stop}
use Rattle.bitpack.proofs.line_loop.handle_byte.Goals as goal

pub returns-in_err-answer_line-clause-err : goal.returns-in_err-answer_line-clause-err
returns-in_err-answer_line-clause-err g c = λ before input rest so_far.
    let old = g.W.Write.contents c.args.writer.now in
    let new = g.W.Write.contents c.answer_line.new.writer in
    let buffered = c.args.output.now in
    let stopped : IfErr c.from_residual.result (λ e. StopsAtAnswer e old new buffered c.as_slice.result.now) = search rules in
    let feed : c.args.byte ≡ 10 = search rules in
    IfErr-to c.from_residual.result _ (λ e. StopsWithin e before new (lines (input ++ c.args.byte ∷ rest))) stopped (λ e part.
    subst (λ b. StopsWithin e before new (lines (input ++ b ∷ rest))) (sym feed)
    (feed_stop before old buffered input c.args.line.now.items so_far e new rest (subst (StopsAtAnswer e old new buffered) c.as_slice.ensures.value part)))

pub returns-then-byte-eq10-clause-ok : goal.returns-then-byte-eq10-clause-ok
returns-then-byte-eq10-clause-ok g c = λ before input so_far.
    let old = g.W.Write.contents c.args.writer.now in
    let new = g.W.Write.contents c.answer_line.new.writer in
    let buffered = c.args.output.now in
    let left = c.answer_line.new.output in
    let answer = subst (AppendsAnswer old new buffered left) c.as_slice.ensures.value c.in_ok-answer_line.ensures.ok in
    let feed : c.args.byte ≡ 10 = search rules in
    subst (λ b. AnsweredSoFar before new left (input ++ b ∷ []) c.clear.new.self.items) (sym feed)
    (subst (AnsweredSoFar before new left (input ++ 10 ∷ [])) (sym c.clear.ensures.items) (feed_step before old buffered input c.args.line.now.items so_far new left answer))

pub returns-in-Ok-clause-ok : goal.returns-in-Ok-clause-ok
returns-in-Ok-clause-ok g c = λ before input so_far.
    let now = g.W.Write.contents c.args.writer.now in
    let other = not_feed c.args.byte (search rules) in
    other_step before now c.args.output.now input c.args.line.now.items so_far c.args.byte c.push_byte.new.line.items other (c.in-Ok.ensures (unfinished input) so_far.started)

pub returns-in-Err-clause-err : goal.returns-in-Err-clause-err
returns-in-Err-clause-err g c = λ before input rest so_far.
    let now = g.W.Write.contents c.args.writer.now in
    stop before now c.args.output.now input c.args.line.now.items so_far c.end_without_memory.result _ (c.args.byte ∷ rest) c.end_without_memory.ensures
