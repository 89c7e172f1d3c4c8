-- The length of one block more is added.
use Rattle.std.proofs.Common.{◌≡◌, ◌*◌, ◌/◌, ◌≤◌, ℕ, List, length, take, drop, sum, ◌∙◌, ap, arith}
use Rattle.std.proofs.lemmas.List.{drop_all, length-drop}
use Rattle.bitpacking.proofs.ForCallers.{AreWords-from_slice}
use Rattle.bitpack_lists.specs.Chains.{second_kind}
use Rattle.bitpack_lists.proofs.lemmas.blocks.ChainLemmas.{bound-more, least_widths}
use Rattle.bitpack_lists.proofs.lemmas.blocks.MeasuredLengths.{chained_step}
use Rattle.bitpack_lists.proofs.lemmas.blocks.WriteSteps.{block-left, left-more, last-block}
use Rattle.bitpack_lists.proofs.chain.packed_len.Goals as goal

pub loop-init : goal.loop-init
loop-init g c = record {
  left = omega arith;
  bound = omega arith;
  measured = λ all long are. (are, omega arith);
}

pub split_at-requires : goal.split_at-requires
split_at-requires g c =
    let len : ℕ = c.BLOCK_LEN-len.result in
    let whole : len ≡ 32 * g.P.BitPacker.lanes = c.BLOCK_LEN-len.ensures ∙ g.met.P.BitPacker.block_len in
    let some = g.met.P.BitPacker.some_lanes in
    block-left len c.loop.counter (length c.args.values.now) (length c.loop.rest.now) (omega arith) c.loop-test.true
    (rw whole c.loop.invariant.left)

pub loop-preserved : goal.loop-preserved
loop-preserved g c =
    let lanes : ℕ = g.P.BitPacker.lanes in
    let len : ℕ = c.BLOCK_LEN-len.result in
    let n : ℕ = 32 * lanes in
    let i : ℕ = c.loop.counter in
    let values : List ℕ = c.args.values.now in
    let rest : List ℕ = c.loop.rest.now in
    let before = c.loop.invariant in
    let whole : len ≡ n = c.BLOCK_LEN-len.ensures ∙ g.met.P.BitPacker.block_len in
    let some = g.met.P.BitPacker.some_lanes in
    let room : n ≤ length rest =
    rw whole at (block-left len i (length values) (length rest) (omega arith) c.loop-test.true (rw whole before.left)) in
    let block : c.split_at.result.0.now ≡ take n rest = c.split_at.ensures.front ∙ ap (λ m. take m rest) whole in
    let after : c.split_at.result.1.now ≡ drop n rest = c.split_at.ensures.back ∙ ap (λ m. drop m rest) whole in
    let next : c.next_kind-block_kind.result ≡ second_kind lanes c.loop.block_kind rest =
    c.next_kind-block_kind.ensures ∙ last-block lanes c.loop.block_kind len rest c.split_at.result.0.now some whole c.split_at.ensures.front in
    let width : ℕ = c.num_bits_kind-least.result in
    record {
      left = left-more n i (length values) (length rest) (length c.split_at.result.1.now) before.left (ap length after ∙ length-drop n rest) room;
      bound = bound-more lanes c.loop.size c.compressed_block_size-size.result width i before.bound c.compressed_block_size-size.ensures
          c.num_bits_kind-least.ensures.narrow;
      measured = λ all long are.
          rw (next, after)
          (chained_step lanes i width c.loop.size c.compressed_block_size-size.result c.loop.block_kind rest all
          (omega (arith, long, c.loop-test.true)) (rw block at c.num_bits_kind-least.ensures.width) c.compressed_block_size-size.ensures
          (before.measured all long are));
    }

pub returns : goal.returns
returns g c =
    let lanes : ℕ = g.P.BitPacker.lanes in
    let len : ℕ = c.BLOCK_LEN-len.result in
    let values : List ℕ = c.args.values.now in
    let blocks : ℕ = length values / len in
    let end : c.loop.counter ≡ blocks = omega arith in
    let (all, long, are, few) = least_widths lanes blocks c.args.kind values (AreWords-from_slice values c.type_inv.values) in
    let measured = rw end at (c.loop.invariant.measured all long are).1 in
    let none : sum (drop blocks all) ≡ 0 = ap sum (drop_all blocks all (omega (arith, long))) in
    (all, long ∙ ap (λ n. length values / n) c.BLOCK_LEN-len.ensures, are, omega (arith, rw none at measured))
