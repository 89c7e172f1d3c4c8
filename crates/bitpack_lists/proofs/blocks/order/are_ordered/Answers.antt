-- The first value is tested after the one before it, and each other one after its neighbour.
use Rattle.std.proofs.Common.{◌≡◌, true, false, get_or, length, refl, sym, ◌∙◌, ap, arith}
use Rattle.std.proofs.lemmas.Bool.{eqb-false, not-true}
use Rattle.bitpack_lists.proofs.lemmas.blocks.SearchLemmas.{each_in_order, ordered_each}
use Rattle.bitpack_lists.proofs.blocks.order.are_ordered.Goals as goal

pub returns-in-Plain : goal.returns-in-Plain
returns-in-Plain c = λ right all ordered are.
    ordered_each c.args.kind all c.args.position (length c.args.values.now) ordered.so_far (λ k lt. rw c.in-Plain.is refl)

pub returns-in-Sorted : goal.returns-in-Sorted
returns-in-Sorted c = λ right all ordered are.
    let here : all c.args.position ≡ get_or c.args.values.now 0 0 = ap all (omega arith) ∙ are 0 (omega (arith, eqb-false (length c.args.values.now) 0 (sym c.if-is_empty.ensures))) in
    let first = sym (c.is_out.ensures all ordered.last here) ∙ c.if-is_out.false in
    ordered_each c.args.kind all c.args.position (length c.args.values.now) ordered.so_far
    (each_in_order false c.args.kind all c.args.position c.args.values.now c.in-Sorted.is are first (c.falls.ensures (not-true c.falls.result right)))

pub returns-in-StrictlySorted : goal.returns-in-StrictlySorted
returns-in-StrictlySorted c = λ right all ordered are.
    let here : all c.args.position ≡ get_or c.args.values.now 0 0 = ap all (omega arith) ∙ are 0 (omega (arith, eqb-false (length c.args.values.now) 0 (sym c.if-is_empty.ensures))) in
    let first = sym (c.is_out.ensures all ordered.last here) ∙ c.if-is_out.false in
    ordered_each c.args.kind all c.args.position (length c.args.values.now) ordered.so_far
    (each_in_order true c.args.kind all c.args.position c.args.values.now c.in-StrictlySorted.is are first
    (c.falls-in-StrictlySorted.ensures (not-true c.falls-in-StrictlySorted.result right)))
