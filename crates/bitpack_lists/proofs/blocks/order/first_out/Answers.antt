-- Each value is tested after the one before it, and the first that is out of order is the least.
use Rattle.std.proofs.Common.{◌≡◌, ◌+◌, ℕ, length, get_or, sym, ◌∙◌, arith}
use Rattle.bitpack_lists.specs.Version2.{is_out}
use Rattle.bitpack_lists.proofs.lemmas.blocks.Orders.{least_below-found, ordered_next}
use Rattle.bitpack_lists.proofs.blocks.order.first_out.Goals as goal

pub returns-then-is_out : goal.returns-then-is_out
returns-then-is_out c = λ all ordered stands.
    let so_far = c.loop-index.invariant all ordered stands in
    let here : ℕ = c.args.position + c.loop-index.index in
    sym (least_below-found (is_out c.args.kind all) here (c.args.position + length c.args.values.now) (omega (arith, c.loop-index-test.true)) so_far.so_far
    (sym (c.is_out.ensures all so_far.last (stands c.loop-index.index c.loop-index-test.true)) ∙ c.if-is_out.true))

pub loop-index-preserved : goal.loop-index-preserved
loop-index-preserved c = λ all ordered stands.
    let so_far = c.loop-index.invariant all ordered stands in
    let value = stands c.loop-index.index c.loop-index-test.true in
    let same : c.args.position + c.loop-index.index + 1 ≡ c.args.position + (c.loop-index.index + 1) = omega arith in
    rw same at (ordered_next c.args.kind all (c.args.position + c.loop-index.index) c.loop-index.last (get_or c.args.values.now c.loop-index.index 0) so_far value
    (sym (c.is_out.ensures all so_far.last value) ∙ c.if-is_out.false))
