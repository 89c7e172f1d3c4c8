-- The bytes encode the list that was packed, and no other. They have no fault, so that the list is opened.
use Rattle.std.proofs.Common.{◌≡◌, ◌∙◌, ap, sym, None, Some, Err, rules}
use Rattle.std.specs.List.{slice_get}
use Rattle.bitpack_uses.specs.Failures.{values_fault}
use Rattle.bitpack_lists.proofs.ForCallers.{no_fault2}
use Rattle.bitpack_uses.proofs.Failures.{fails_alike, fails_for_values, none_if_ok}
use Rattle.bitpack_uses.proofs.round_trips.value.Goals as goal

pub returns-clause-same : goal.returns-clause-same
returns-clause-same g c =
    let written = c.in_ok-encode.ensures.ok in
    let encoding : c.encode.new.out.items ≡ written.0 = rw c.new-encoding.ensures.items at written.3 in
    let same = c.in_ok-list.ensures.only c.args.kind c.args.values.now (rw (c.deref.ensures.value, encoding) written.2) in
    c.get.ensures ∙ ap (λ values. slice_get values c.args.position) same.1

pub returns-clause-fault : goal.returns-clause-fault
returns-clause-fault g c =
    let none = none_if_ok (values_fault c.args.kind c.args.values.now) _ (fails_for_values c.args.kind c.args.values.now _ c.in_ok-encode.ensures.long c.in_ok-encode.ensures.order) in
    rw none tt

pub returns-in_err-encode-clause-fault : goal.returns-in_err-encode-clause-fault
returns-in_err-encode-clause-fault g c =
    let is : c.from_residual.result ≡ Err c.in_err-encode.field-0.0 = search rules in
    rw is (fails_alike _ _ (values_fault c.args.kind c.args.values.now) _ (fails_for_values c.args.kind c.args.values.now _ c.in_err-encode.ensures.long c.in_err-encode.ensures.order))

pub returns-in_err-list-clause-fault : goal.returns-in_err-list-clause-fault
returns-in_err-list-clause-fault g c =
    let written = c.in_ok-encode.ensures.ok in
    let encoding : c.encode.new.out.items ≡ written.0 = rw c.new-encoding.ensures.items at written.3 in
    let none = (no_fault2 g.P.BitPacker.lanes written.0 g.met.P.BitPacker.some_lanes written.1).1 (c.args.kind, c.args.values.now, written.2) in
    let clash : None ≡ Some c.in_err-list.field-0.0 = sym none ∙ rw (c.deref.ensures.value, encoding) at c.in_err-list.ensures.fault in
    absurd cc
