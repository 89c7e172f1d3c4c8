-- An opened list is the one that its bytes encode.
use Rattle.std.proofs.lemmas.Result.{IfOk-weaker}
use Rattle.bitpack_lists.specs.Opened.{kind_of, values}
use Rattle.bitpack.specs.Answers.{printed}
use Rattle.bitpack.proofs.ListAnswers.{found_in}
use Rattle.bitpack.proofs.answer.lists.answer_seek.Goals as goal

pub returns-in-Ok : goal.returns-in-Ok
returns-in-Ok g c =
    let list = c.in-Ok.list in
    let opened = c.in-Ok.ensures in
    IfOk-weaker c.seek_in.result _ _ (λ answer is. found_in g.P.BitPacker.lanes c.args.target c.args.bytes.now (kind_of list) (values list) (printed answer)
    opened.fault opened.list is) c.seek_in.ensures
