-- A refusal is the first fault of the bytes, or the one of the first value out of order.
use Rattle.std.proofs.Common.{◌≡◌, ◌+◌, ◌∙◌, ap, rules}
use Rattle.std.proofs.lemmas.Result.{IfOk-weaker}
use Rattle.bitpacking.proofs.ForCallers.{AreBytes-from_slice}
use Rattle.bitpack_lists.specs.declared.list_error.ListError.TheVariants.{Memory}
use Rattle.bitpack.specs.Answers.{refused}
use Rattle.bitpack.proofs.UpgradeAnswers.{upgraded_err}
use Rattle.bitpack.proofs.answer.upgrades.answer_upgrade.Goals as goal

pub returns : goal.returns
returns g c =
    let other : ¬ (c.in-Err.fault ≡ Memory) = search rules in
    IfOk-weaker c.refuse.result _ _ (λ answer is.
    upgraded_err g.P.BitPacker.lanes c.args.bytes.now _ c.in-Err.fault other (is ∙ ap (λ number. refused (20 + number)) c.number.ensures)
    g.met.P.BitPacker.some_lanes (AreBytes-from_slice c.args.bytes.now c.type_inv.bytes) c.in-Err.ensures.fault c.in-Err.ensures.order) c.refuse.ensures
