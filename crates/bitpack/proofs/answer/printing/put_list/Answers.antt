-- The kind is put before the values.
use Rattle.std.proofs.Common.{◌≡◌, ℕ, List, ◌∷◌, [], ◌++◌, ap, subst, ◌∙◌, append_assoc, rules}
use Rattle.bitpack.specs.Grammar.{list_kind_string}
use Rattle.bitpack.specs.Answers.{printed_list, printed_values}
use Rattle.bitpack.specs.Lines.{AppendsBeginning, AppendsBut}
use Rattle.bitpack.proofs.BufferedBytes.{OnErr-by, OnErr-to, OnOk-to, begin-more, but-more, but-part}
use Rattle.bitpack.proofs.answer.printing.put_list.Goals as goal

-- what is put before the values, and the values
all_of : (buffered prefix name values : List ℕ) → prefix ≡ name ++ 32 ∷ [] → (buffered ++ prefix) ++ values ≡ buffered ++ (name ++ 32 ∷ values)
all_of buffered prefix name values e =
    append_assoc buffered prefix values ∙ ap (λ l. buffered ++ l) (ap (λ l. l ++ values) e ∙ append_assoc name (32 ∷ []) values)

pub returns-in_err-put-clause-err : goal.returns-in_err-put-clause-err
returns-in_err-put-clause-err g c =
    let old = g.W.Write.contents c.args.writer.now in
    let new = g.W.Write.contents c.put.new.writer in
    let prefix = c.as_bytes.result.now in
    let values = printed_values c.args.values.now in
    let all = all_of c.args.output.now prefix (list_kind_string c.args.kind) values (search rules) in
    OnErr-by _ (AppendsBeginning old new (c.args.output.now ++ printed_list c.args.kind c.args.values.now))
    (subst (AppendsBeginning old new) all (begin-more old new (c.args.output.now ++ prefix) values c.in_err-put.ensures.err))

pub returns-clause-ok : goal.returns-clause-ok
returns-clause-ok g c =
    let old = g.W.Write.contents c.args.writer.now in
    let new = g.W.Write.contents c.put_values.new.writer in
    let prefix = c.as_bytes.result.now in
    let values = printed_values c.args.values.now in
    let all = all_of c.args.output.now prefix (list_kind_string c.args.kind) values (search rules) in
    OnOk-to _ _ (AppendsBut old new (c.args.output.now ++ printed_list c.args.kind c.args.values.now) c.put_values.new.output) c.put_values.ensures.ok (λ put.
    subst (λ l. AppendsBut old new l c.put_values.new.output) all (but-more old _ new (c.args.output.now ++ prefix) c.put.new.self c.in_ok-put.ensures.ok values c.put_values.new.output put))

pub returns-clause-err : goal.returns-clause-err
returns-clause-err g c =
    let old = g.W.Write.contents c.args.writer.now in
    let new = g.W.Write.contents c.put_values.new.writer in
    let prefix = c.as_bytes.result.now in
    let values = printed_values c.args.values.now in
    let all = all_of c.args.output.now prefix (list_kind_string c.args.kind) values (search rules) in
    OnErr-to _ _ (AppendsBeginning old new (c.args.output.now ++ printed_list c.args.kind c.args.values.now)) c.put_values.ensures.err (λ part.
    subst (AppendsBeginning old new) all (but-part old _ new (c.args.output.now ++ prefix) c.put.new.self c.in_ok-put.ensures.ok values part))
