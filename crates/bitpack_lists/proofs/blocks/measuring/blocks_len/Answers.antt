-- The length of one block more is added.
use Rattle.std.proofs.Common.{◌≡◌, ◌+◌, ◌*◌, ◌/◌, ◌%◌, ◌≤◌, ℕ, List, length, take, drop, sum, refl, ◌∙◌, ap, arith}
use Rattle.std.proofs.lemmas.List.{drop_all, length-drop}
use Rattle.std.proofs.lemmas.Nat.{mul-le}
use Rattle.std.proofs.Math.Nat.{div-add-mod}
use Rattle.bitpack_lists.specs.Chains.{second_kind}
use Rattle.bitpack_lists.specs.Parts.{first_kind}
use Rattle.bitpack_lists.proofs.lemmas.blocks.MeasuredLengths.{measured_step}
use Rattle.bitpack_lists.proofs.lemmas.blocks.WriteSteps.{block-left, left-more, last-block, cached_step, least_step}
use Rattle.bitpack_lists.proofs.blocks.measuring.blocks_len.Goals as goal

pub loop-index-init : goal.loop-index-init
loop-index-init g c = record {
  left = omega arith;
  low = omega arith;
  bound = omega arith;
  measured = λ all long are. (rw c.first-kind.ensures are, omega arith);
  cached = λ _. rw c.first-kind.ensures (λ later more. more);
  least = tt;
}

pub split_at-requires : goal.split_at-requires
split_at-requires g c =
    let len : ℕ = c.BLOCK_LEN-len.result in
    let whole : len ≡ 32 * g.P.BitPacker.lanes = c.BLOCK_LEN-len.ensures ∙ g.met.P.BitPacker.block_len in
    let some = g.met.P.BitPacker.some_lanes in
    block-left len c.loop-index.index (length c.args.values.now) (length c.loop-index.rest.now) (omega arith) c.loop-index-test.true
    (rw whole c.loop-index.invariant.left)

pub loop-index-preserved : goal.loop-index-preserved
loop-index-preserved g c =
    let lanes : ℕ = g.P.BitPacker.lanes in
    let len : ℕ = c.BLOCK_LEN-len.result in
    let n : ℕ = 32 * lanes in
    let i : ℕ = c.loop-index.index in
    let values : List ℕ = c.args.values.now in
    let rest : List ℕ = c.loop-index.rest.now in
    let before = c.loop-index.invariant in
    let whole : len ≡ n = c.BLOCK_LEN-len.ensures ∙ g.met.P.BitPacker.block_len in
    let some = g.met.P.BitPacker.some_lanes in
    let few = g.met.P.BitPacker.few_lanes in
    let room : n ≤ length rest =
    rw whole at (block-left len i (length values) (length rest) (omega arith) c.loop-index-test.true (rw whole before.left)) in
    let block : c.split_at.result.0.now ≡ take n rest = c.split_at.ensures.front ∙ ap (λ m. take m rest) whole in
    let after : c.split_at.result.1.now ≡ drop n rest = c.split_at.ensures.back ∙ ap (λ m. drop m rest) whole in
    let next : c.next_kind-kind.result ≡ second_kind lanes c.loop-index.kind rest =
    c.next_kind-kind.ensures ∙ last-block lanes c.loop-index.kind len rest c.split_at.result.0.now some whole c.split_at.ensures.front in
    let width : ℕ = c.num_bits_kind-width.result in
    let narrow : lanes * width ≤ 8 * 32 = mul-le lanes width 8 32 few c.num_bits_kind-width.ensures.narrow in
    record {
      left = left-more n i (length values) (length rest) (length c.split_at.result.1.now) before.left (ap length after ∙ length-drop n rest) room;
      low = omega (arith, before.low);
      bound = omega (arith, c.compressed_block_size.ensures, c.requires.entry, narrow);
      measured = λ all long are.
          rw (next, after, c.compressed_block_size.ensures)
          (measured_step lanes c.args.entry_len i width c.loop-index.size c.loop-index.kind rest all (omega (arith, long, c.loop-index-test.true))
          (rw block at c.num_bits_kind-width.ensures.width) (before.measured all long are));
      cached = λ le.
          rw (next, after, c.cache_width.ensures.cached (omega arith))
          (cached_step lanes (first_kind c.args.kind) c.loop-index.kind values rest (take i c.loop-index.widths) width
          (rw block at c.num_bits_kind-width.ensures.width) (before.cached (omega arith)));
      least =
          least_step lanes (first_kind c.args.kind) c.loop-index.kind values rest c.loop-index.widths c.cache_width.new.widths i width
          (rw block at c.num_bits_kind-width.ensures.width) c.cache_width.ensures.cached c.cache_width.ensures.past before.cached before.least;
    }

pub returns-clause-room : goal.returns-clause-room
returns-clause-room g c =
    let len : ℕ = c.BLOCK_LEN-len.result in
    let whole : len ≡ 32 * g.P.BitPacker.lanes = c.BLOCK_LEN-len.ensures ∙ g.met.P.BitPacker.block_len in
    let end : c.loop-index.index ≡ length c.args.values.now / len = omega arith in
    let low = rw (end, whole) at c.loop-index.invariant.low in
    omega (arith, low)

pub returns-clause-few : goal.returns-clause-few
returns-clause-few g c =
    let len : ℕ = c.BLOCK_LEN-len.result in
    let some = g.met.P.BitPacker.some_lanes in
    let whole : len ≡ 32 * g.P.BitPacker.lanes = c.BLOCK_LEN-len.ensures ∙ g.met.P.BitPacker.block_len in
    let count : ℕ = length c.args.values.now in
    let blocks : ℕ = count / len in
    let few : 1 * blocks ≤ len * blocks = mul-le 1 blocks len blocks (omega (arith, whole, some)) (omega arith) in
    let parts : len * blocks + count % len ≡ count = div-add-mod count len in
    omega (arith, c.loop-index.invariant.bound, few, parts, c.requires.few)

pub returns-clause-len : goal.returns-clause-len
returns-clause-len g c =
    let len : ℕ = c.BLOCK_LEN-len.result in
    let n : ℕ = 32 * g.P.BitPacker.lanes in
    let values : List ℕ = c.args.values.now in
    let whole : len ≡ n = c.BLOCK_LEN-len.ensures ∙ g.met.P.BitPacker.block_len in
    let end : c.loop-index.index ≡ length values / len = omega arith in
    λ all long are.
    let measured = rw (end, whole) at (c.loop-index.invariant.measured all (long ∙ rw whole refl) are).1 in
    let none : sum (drop (length values / n) all) ≡ 0 = ap sum (drop_all (length values / n) all (omega (arith, long))) in
    omega (arith, rw none at measured)

pub returns-clause-widths : goal.returns-clause-widths
returns-clause-widths g c =
    let len : ℕ = c.BLOCK_LEN-len.result in
    let whole : len ≡ 32 * g.P.BitPacker.lanes = c.BLOCK_LEN-len.ensures ∙ g.met.P.BitPacker.block_len in
    let end : c.loop-index.index ≡ length c.args.values.now / len = omega arith in
    rw (end, whole) at c.loop-index.invariant.least
