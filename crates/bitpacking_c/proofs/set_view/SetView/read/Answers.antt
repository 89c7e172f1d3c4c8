-- Neither has chunks, and both have no ids.
use Rattle.std.proofs.Common.{◌∙◌, arith, sym}
use Rattle.bitpacking_c.proofs.WindowSteps.{alike}
use Rattle.bitpacking_c.proofs.set_view.SetView.read.Goals as goal

pub returns-in_default-clause-before : goal.returns-in_default-clause-before
returns-in_default-clause-before c = λ window is.
    let form = c.no_ids.ensures.form in
    alike c.args.self.now.bytes.now c.no_ids.result.bytes.now window (c.set.ensures.none c.in_default.is ∙ sym c.no_ids.ensures.ids) (λ five. absurd (omega arith)) is

pub returns-in_default-clause-after : goal.returns-in_default-clause-after
returns-in_default-clause-after c = λ window is.
    let form = c.set.ensures.form c.in_default.is in
    alike c.no_ids.result.bytes.now c.args.self.now.bytes.now window (c.no_ids.ensures.ids ∙ sym (c.set.ensures.none c.in_default.is)) (λ five. absurd (omega arith)) is
