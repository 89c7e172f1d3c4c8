-- The fault of the blocks left is that of all, where those before have none.
use Rattle.std.proofs.Common.{◌-◌, ◌+◌, ℕ, List, Option, sym, ◌∙◌, ap, arith}
use Rattle.std.specs.Option.{option_or}
use Rattle.std.proofs.Math.Nat.{sub-zero}
use Rattle.std.proofs.lemmas.Result.{err_from_is_err_and}
use Rattle.bitpack_lists.specs.declared.list_error.ListError.{ListError}
use Rattle.bitpack_lists.specs.Version1.{blocks_fault1, after_block1}
use Rattle.bitpack_lists.proofs.lemmas.blocks.FaultLemmas.{blocks_left, no_blocks_left, tail_short, tail_long, tail_right}
use Rattle.bitpack_lists.proofs.v1.reading.test_chain.Goals as goal

pub loop-block-init : goal.loop-block-init
loop-block-init g c = ap (λ n. blocks_fault1 g.P.BitPacker.lanes c.args.tail 0 n c.args.bytes.now) (sym (sub-zero c.args.blocks))

pub returns-in_err-rest : goal.returns-in_err-rest
returns-in_err-rest g c =
    let lanes : ℕ = g.P.BitPacker.lanes in
    let i : ℕ = c.loop-block.block in
    let rest : List ℕ = c.loop-block.rest.now in
    let later : Option ListError = blocks_fault1 lanes c.args.tail (i + 1) (c.args.blocks - (i + 1)) (after_block1 lanes rest) in
    let p = err_from_is_err_and c.from_residual.result c.from_residual.ensures.1 in
    rw (p.1, p.2)
    (c.loop-block.invariant ∙ blocks_left lanes c.args.tail c.args.blocks i rest c.loop-block-test.true
    ∙ ap (λ fault. option_or fault later) c.in_err-rest.ensures.fault)

pub loop-block-preserved : goal.loop-block-preserved
loop-block-preserved g c =
    let lanes : ℕ = g.P.BitPacker.lanes in
    let i : ℕ = c.loop-block.block in
    let rest : List ℕ = c.loop-block.rest.now in
    let later : Option ListError = blocks_fault1 lanes c.args.tail (i + 1) (c.args.blocks - (i + 1)) (after_block1 lanes rest) in
    rw c.in_ok-rest.ensures.rest
    (c.loop-block.invariant ∙ blocks_left lanes c.args.tail c.args.blocks i rest c.loop-block-test.true
    ∙ ap (λ fault. option_or fault later) c.in_ok-rest.ensures.fault)

pub returns-then-rest-tail : goal.returns-then-rest-tail
returns-then-rest-tail g c =
    let lanes : ℕ = g.P.BitPacker.lanes in
    c.loop-block.invariant ∙ no_blocks_left lanes c.args.tail c.args.blocks c.loop-block.block c.loop-block.rest.now c.loop-block-test.false
    ∙ tail_short lanes c.args.tail c.loop-block.block c.loop-block.rest.now c.if-rest-tail.true

pub returns-then-rest-tail-2 : goal.returns-then-rest-tail-2
returns-then-rest-tail-2 g c =
    let lanes : ℕ = g.P.BitPacker.lanes in
    c.loop-block.invariant ∙ no_blocks_left lanes c.args.tail c.args.blocks c.loop-block.block c.loop-block.rest.now c.loop-block-test.false
    ∙ tail_long lanes c.args.tail c.loop-block.block c.loop-block.rest.now c.if-rest-tail-2.true

pub returns : goal.returns
returns g c =
    let lanes : ℕ = g.P.BitPacker.lanes in
    c.loop-block.invariant ∙ no_blocks_left lanes c.args.tail c.args.blocks c.loop-block.block c.loop-block.rest.now c.loop-block-test.false
    ∙ tail_right lanes c.args.tail c.loop-block.block c.loop-block.rest.now (omega arith)
