-- At the end of the input the unfinished line is the last one, and what was put is written.
use Rattle.std.proofs.Common.{◌≢◌, ◌∷◌, [], ◌++◌, IfErr, append-nil, ap, length, rules, subst, sym, ◌∙◌}
use Rattle.bitpack.specs.declared.run_error.RunError.TheVariants.{Write}
use Rattle.bitpack.specs.Lines.{AppendsAnswers, StopsAtAnswer, StopsWithin, lines}
use Rattle.bitpack.proofs.BufferedBytes.{IfErr-to, IfErr-write, OnOk-to}
use Rattle.bitpack.proofs.RunSteps.{all_written, feed_step, feed_stop, none_started, same_lines, some_started, stop}
use Rattle.bitpack.proofs.line_loop.answer_last.Goals as goal

pub returns-then-is_empty-clause-ok : goal.returns-then-is_empty-clause-ok
returns-then-is_empty-clause-ok g c = λ before input so_far.
    let old = g.W.Write.contents c.args.writer.now in
    let new = g.W.Write.contents c.write_out.new.writer in
    let none = none_started before old c.args.output.now input c.args.line.now so_far (search rules) in
    OnOk-to _ _ (AppendsAnswers before new (lines input)) c.write_out.ensures.ok (λ written.
    subst (AppendsAnswers before new) (sym none) (all_written before old c.args.output.now input c.args.line.now so_far new written))

pub returns-then-is_empty-clause-err : goal.returns-then-is_empty-clause-err
returns-then-is_empty-clause-err g c = λ before input so_far.
    let old = g.W.Write.contents c.args.writer.now in
    let new = g.W.Write.contents c.write_out.new.writer in
    IfErr-write c.write_out.result (λ e. StopsWithin e before new (lines input)) _ c.write_out.ensures.err c.write_out.ensures.kind (λ part.
    subst (λ l. StopsWithin Write before new (lines l)) (append-nil input) (stop before old c.args.output.now input c.args.line.now so_far Write new [] part))

pub returns-in_err-answer_line-clause-err : goal.returns-in_err-answer_line-clause-err
returns-in_err-answer_line-clause-err g c = λ before input so_far.
    let old = g.W.Write.contents c.args.writer.now in
    let new = g.W.Write.contents c.answer_line.new.writer in
    let buffered = c.args.output.now in
    let line = c.args.line.now in
    let some : length line ≢ 0 = search rules in
    let stopped : IfErr c.from_residual.result (λ e. StopsAtAnswer e old new buffered line) = search rules in
    IfErr-to c.from_residual.result _ (λ e. StopsWithin e before new (lines input)) stopped (λ e part.
    subst (StopsWithin e before new) (same_lines before old buffered input line so_far some) (feed_stop before old buffered input line so_far e new [] part))

pub returns-clause-ok : goal.returns-clause-ok
returns-clause-ok g c = λ before input so_far.
    let old = g.W.Write.contents c.args.writer.now in
    let mid = g.W.Write.contents c.answer_line.new.writer in
    let new = g.W.Write.contents c.write_out-2.new.writer in
    let buffered = c.args.output.now in
    let left = c.answer_line.new.output in
    let line = c.args.line.now in
    let some : length line ≢ 0 = search rules in
    let answered = feed_step before old buffered input line so_far mid left c.in_ok-answer_line.ensures.ok in
    OnOk-to _ _ (AppendsAnswers before new (lines input)) c.write_out-2.ensures.ok (λ written.
    subst (AppendsAnswers before new) (sym (some_started before old buffered input line so_far some)) (all_written before mid left (input ++ 10 ∷ []) [] answered new written))

pub returns-clause-err : goal.returns-clause-err
returns-clause-err g c = λ before input so_far.
    let old = g.W.Write.contents c.args.writer.now in
    let mid = g.W.Write.contents c.answer_line.new.writer in
    let new = g.W.Write.contents c.write_out-2.new.writer in
    let buffered = c.args.output.now in
    let left = c.answer_line.new.output in
    let line = c.args.line.now in
    let some : length line ≢ 0 = search rules in
    let answered = feed_step before old buffered input line so_far mid left c.in_ok-answer_line.ensures.ok in
    IfErr-write c.write_out-2.result (λ e. StopsWithin e before new (lines input)) _ c.write_out-2.ensures.err c.write_out-2.ensures.kind (λ part.
    subst (StopsWithin Write before new) (ap lines (append-nil (input ++ 10 ∷ [])) ∙ same_lines before old buffered input line so_far some) (stop before mid left (input ++ 10 ∷ []) [] answered Write new [] part))
