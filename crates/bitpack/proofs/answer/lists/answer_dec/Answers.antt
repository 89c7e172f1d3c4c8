-- An opened list is the one that its bytes encode.
use Rattle.std.proofs.Common.{refl, rules}
use Rattle.bitpack_lists.specs.Opened.{kind_of, values}
use Rattle.bitpack.proofs.ListAnswers.{second_listed}
use Rattle.bitpack.proofs.answer.lists.answer_dec.Goals as goal

pub returns-in_ok-values_of-in-Ok : goal.returns-in_ok-values_of-in-Ok
returns-in_ok-values_of-in-Ok g c =
    let list = c.in-Ok.list in
    let opened = c.in-Ok.ensures in
    second_listed g.P.BitPacker.lanes c.args.bytes.now (kind_of list) (values list) _ (search rules) opened.fault opened.list
    (rw (c.kind.ensures, c.in_ok-values_of-in-Ok.ensures) refl)
