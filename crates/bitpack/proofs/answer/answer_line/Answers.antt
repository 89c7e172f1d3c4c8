-- The line feed comes after the answer. If memory runs out, no part of the answer is appended.
use Rattle.std.proofs.Common.{◌≡◌, ◌∷◌, [], ◌++◌, IfErr, append_assoc, rules, subst}
use Rattle.bitpack.specs.declared.run_error.RunError.TheVariants.{Write}
use Rattle.bitpack.specs.Answers.{printed}
use Rattle.bitpack.specs.Lines.{AppendsAnswer, AppendsBeginning, AppendsBut, StopsAtAnswer}
use Rattle.bitpack.proofs.AnswerLemmas.{answer_of}
use Rattle.bitpack.proofs.BufferedBytes.{IfErr-write, OnErr-by, OnOk-to, begin-more, but-more, but-part, stop-more}
use Rattle.bitpack.proofs.answer.answer_line.Goals as goal

pub returns-in_default-clause-err : goal.returns-in_default-clause-err
returns-in_default-clause-err g c =
    let (answer, is) = answer_of c.args.line.now in
    (answer, is, stop-more _ _ _ c.args.output.now (answer ++ 10 ∷ []) c.end_without_memory.ensures)

pub returns-in_err-put_answer-clause-err : goal.returns-in_err-put_answer-clause-err
returns-in_err-put_answer-clause-err g c =
    let old = g.W.Write.contents c.args.writer.now in
    let new = g.W.Write.contents c.put_answer.new.writer in
    let buffered = c.args.output.now in
    let answer = printed c.in-Ok.answer in
    let kind : IfErr c.from_residual.result (λ e. e ≡ Write) = search rules in
    IfErr-write c.from_residual.result (λ e. StopsAtAnswer e old new buffered c.args.line.now) (AppendsBeginning old new (buffered ++ answer)) (OnErr-by _ _ c.in_err-put_answer.ensures.err) kind
    (λ part. (answer, c.in-Ok.ensures, subst (AppendsBeginning old new) (append_assoc buffered answer (10 ∷ [])) (begin-more old new (buffered ++ answer) (10 ∷ []) part)))

pub returns-clause-ok : goal.returns-clause-ok
returns-clause-ok g c =
    let old = g.W.Write.contents c.args.writer.now in
    let new = g.W.Write.contents c.put.new.writer in
    let buffered = c.args.output.now in
    let answer = printed c.in-Ok.answer in
    OnOk-to _ _ (AppendsAnswer old new buffered c.put.new.self c.args.line.now) c.put.ensures.ok (λ put.
    (answer, c.in-Ok.ensures, subst (λ l. AppendsBut old new l c.put.new.self) (append_assoc buffered answer (10 ∷ [])) (but-more old _ new (buffered ++ answer) c.put_answer.new.output c.in_ok-put_answer.ensures.ok (10 ∷ []) c.put.new.self put)))

pub returns-clause-err : goal.returns-clause-err
returns-clause-err g c =
    let old = g.W.Write.contents c.args.writer.now in
    let new = g.W.Write.contents c.put.new.writer in
    let buffered = c.args.output.now in
    let answer = printed c.in-Ok.answer in
    IfErr-write c.put.result (λ e. StopsAtAnswer e old new buffered c.args.line.now) _ c.put.ensures.err c.put.ensures.kind
    (λ part. (answer, c.in-Ok.ensures, subst (AppendsBeginning old new) (append_assoc buffered answer (10 ∷ [])) (but-part old _ new (buffered ++ answer) c.put_answer.new.output c.in_ok-put_answer.ensures.ok (10 ∷ []) part)))
