-- Each turn of the loop puts one value more.
use Rattle.std.proofs.Common.{◌≡◌, ◌∷◌, ◌++◌, get_or, rules, subst, sym}
use Rattle.bitpack.specs.Answers.{printed_values}
use Rattle.bitpack.specs.Lines.{AppendsBeginning}
use Rattle.bitpack.proofs.BufferedBytes.{OnErr-by}
use Rattle.bitpack.proofs.PutSteps.{comma_part, value_part, value_step, values_part}
use Rattle.bitpack.proofs.answer.printing.put_values.Goals as goal

pub returns-in_err-put_value-clause-err : goal.returns-in_err-put_value-clause-err
returns-in_err-put_value-clause-err g c =
    let old = g.W.Write.contents c.args.writer.now in
    let new = g.W.Write.contents c.put_value.new.writer in
    let before = c.args.output.now in
    let first = c.in-Some.first.now in
    let whole : c.args.values.now ≡ first ∷ c.in-Some.rest.now = search rules in
    OnErr-by _ (AppendsBeginning old new (before ++ printed_values c.args.values.now))
    (subst (λ l. AppendsBeginning old new (before ++ printed_values l)) (sym whole)
    (values_part old before first c.in-Some.rest.now new 0 c.in_err-put_value.ensures.err))

pub returns-in_err-put-clause-err : goal.returns-in_err-put-clause-err
returns-in_err-put-clause-err g c =
    let old = g.W.Write.contents c.args.writer.now in
    let new = g.W.Write.contents c.put-in-loop-value.new.writer in
    let before = c.args.output.now in
    let first = get_or c.args.values.now 0 0 in
    let whole : c.args.values.now ≡ first ∷ c.in-Some.rest.now = search rules in
    OnErr-by _ (AppendsBeginning old new (before ++ printed_values c.args.values.now))
    (subst (λ l. AppendsBeginning old new (before ++ printed_values l)) (sym whole)
    (comma_part old before first c.in-Some.rest.now _ c.loop-value.value-index c.loop-value.output (search rules) c.loop-value.invariant new c.in_err-put.ensures.err))

pub returns-in_err-put_value-2-clause-err : goal.returns-in_err-put_value-2-clause-err
returns-in_err-put_value-2-clause-err g c =
    let old = g.W.Write.contents c.args.writer.now in
    let new = g.W.Write.contents c.put_value-in-loop-value.new.writer in
    let before = c.args.output.now in
    let first = get_or c.args.values.now 0 0 in
    let whole : c.args.values.now ≡ first ∷ c.in-Some.rest.now = search rules in
    OnErr-by _ (AppendsBeginning old new (before ++ printed_values c.args.values.now))
    (subst (λ l. AppendsBeginning old new (before ++ printed_values l)) (sym whole)
    (value_part old before first c.in-Some.rest.now _ c.loop-value.value-index c.loop-value.output (search rules) c.loop-value.invariant _ c.put-in-loop-value.new.self c.in_ok-put.ensures.ok new c.in_err-put_value-2.ensures.err))

pub loop-value-preserved : goal.loop-value-preserved
loop-value-preserved g c =
    value_step _ c.args.output.now (get_or c.args.values.now 0 0) c.in-Some.rest.now _ c.loop-value.value-index c.loop-value.output (search rules) c.loop-value.invariant _ c.put-in-loop-value.new.self c.in_ok-put.ensures.ok _ _ c.in_ok-put_value-2.ensures.ok
