-- Each return is the refusal or the reply that the definition of an answer requires.
use Rattle.std.proofs.Common.{arith}
use Rattle.std.proofs.lemmas.Result.{IfOk-weaker}
use Rattle.bitpack.specs.Answers.{IsAnswer, Passed, Refused}
use Rattle.bitpack.specs.inner.Found.{request_of}
use Rattle.bitpack.proofs.answer.answer_to.Goals as goal

pub returns-then-line-gt-LINE_LIMIT : goal.returns-then-line-gt-LINE_LIMIT
unfolding IsAnswer
returns-then-line-gt-LINE_LIMIT c = IfOk-weaker c.refuse.result _ _ (λ answer is. Refused (omega arith) is) c.refuse.ensures

pub returns-in-Ok : goal.returns-in-Ok
unfolding IsAnswer
returns-in-Ok c =
    IfOk-weaker c.reply.result _ _ (λ answer replied.
    Passed (λ long. omega arith) (Passed (λ none. none c.in-Ok.line.packer (request_of c.in-Ok.line.command) c.in-Ok.ensures) (record {
      packer = c.in-Ok.line.packer;
      request = request_of c.in-Ok.line.command;
      spelled = c.in-Ok.ensures;
      replied = replied;
    }))) c.reply.ensures

pub returns-in-Err-Spelling : goal.returns-in-Err-Spelling
unfolding IsAnswer
returns-in-Err-Spelling c =
    let none = rw c.in-Err-Spelling.field-0-is at c.in-Err-Spelling.ensures in
    IfOk-weaker c.refuse-in-Err-Spelling.result _ _ (λ answer is.
    Passed (λ long. omega arith) (Refused (λ packer request spelled. none (packer, request) spelled) is)) c.refuse-in-Err-Spelling.ensures
