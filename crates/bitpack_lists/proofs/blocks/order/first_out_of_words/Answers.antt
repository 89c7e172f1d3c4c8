-- Each value is read, and tested after the one before it.
use Rattle.std.proofs.Common.{◌≡◌, ◌+◌, ℕ, sym, ◌∙◌, arith}
use Rattle.bitpack_lists.specs.Version2.{is_out}
use Rattle.bitpack_lists.proofs.lemmas.blocks.Orders.{least_below-found, ordered_next}
use Rattle.bitpack_lists.proofs.lemmas.blocks.PartLemmas.{word-drop}
use Rattle.bitpack_lists.proofs.blocks.order.first_out_of_words.Goals as goal

pub returns-then-is_out : goal.returns-then-is_out
returns-then-is_out c = λ all ordered stands.
    let so_far = c.loop-index.invariant all ordered stands in
    let here : ℕ = c.args.position + c.loop-index.index in
    let value = stands c.loop-index.index c.loop-index-test.true ∙ sym (c.read_one-value.ensures ∙ word-drop c.args.bytes.now c.loop-index.index) in
    sym (least_below-found (is_out c.args.kind all) here (c.args.position + c.args.count) (omega (arith, c.loop-index-test.true)) so_far.so_far
    (sym (c.is_out.ensures all so_far.last value) ∙ c.if-is_out.true))

pub loop-index-preserved : goal.loop-index-preserved
loop-index-preserved c = λ all ordered stands.
    let so_far = c.loop-index.invariant all ordered stands in
    let value = stands c.loop-index.index c.loop-index-test.true ∙ sym (c.read_one-value.ensures ∙ word-drop c.args.bytes.now c.loop-index.index) in
    let same : c.args.position + c.loop-index.index + 1 ≡ c.args.position + (c.loop-index.index + 1) = omega arith in
    rw same at (ordered_next c.args.kind all (c.args.position + c.loop-index.index) c.loop-index.last c.read_one-value.result so_far value
    (sym (c.is_out.ensures all so_far.last value) ∙ c.if-is_out.false))
