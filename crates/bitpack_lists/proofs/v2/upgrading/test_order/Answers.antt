-- Each block that was unpacked is that of the values, and its order was tested.
use Rattle.std.proofs.Common.{◌≡◌, ◌+◌, ◌*◌, ◌/◌, ◌%◌, ◌<◌, ◌≤◌, ℕ, List, length, Option, refl, ◌∙◌, arith}
use Rattle.std.proofs.Math.Nat.{sub-zero}
use Rattle.bitpacking.specs.declared.kind.Kind.{Kind}
use Rattle.bitpacking.specs.Codes.{AreWords}
use Rattle.bitpacking.specs.Words.{word}
use Rattle.bitpack_lists.specs.declared.list_kind.ListKind.{ListKind}
use Rattle.bitpack_lists.specs.Parts.{tail_values, whole_blocks}
use Rattle.bitpack_lists.specs.Version2.{first_out, is_out, least_below}
use Rattle.bitpack_lists.specs.inner.Opening.{IsOrdered}
use Rattle.bitpack_lists.proofs.lemmas.blocks.ReadSteps.{after_right, right_left, tail_left}
use Rattle.bitpack_lists.proofs.lemmas.v2.UpgradeSteps.{InOrder, in_order_done, in_order_first, in_order_found, in_order_kind, in_order_step}
use Rattle.bitpack_lists.proofs.v2.upgrading.test_order.Goals as goal

pub loop-index-init : goal.loop-index-init
loop-index-init g c = record {
  right = rw sub-zero c.requires.tested.sound;
  ordered = λ values listed. rw c.first-kind.ensures (in_order_first g.P.BitPacker.lanes c.args.header.count 0 c.args.header.kind values c.args.bytes.now listed);
}

pub unpack_block-requires-clause-right : goal.unpack_block-requires-clause-right
unpack_block-requires-clause-right g c =
    let whole : c.BLOCK_LEN-len.result ≡ 32 * g.P.BitPacker.lanes = c.BLOCK_LEN-len.ensures ∙ g.met.P.BitPacker.block_len in
    (right_left g.P.BitPacker.lanes (4 * tail_values g.P.BitPacker.lanes c.args.header.count) (whole_blocks g.P.BitPacker.lanes c.args.header.count) c.loop-index.index
    c.loop-index.rest.now (rw whole at c.loop-index-test.true) c.loop-index.invariant.right).0

pub returns-in-Some-clause-order : goal.returns-in-Some-clause-order
returns-in-Some-clause-order g c =
    let lanes : ℕ = g.P.BitPacker.lanes in
    let whole : c.BLOCK_LEN-len.result ≡ 32 * lanes = c.BLOCK_LEN-len.ensures ∙ g.met.P.BitPacker.block_len in
    let (part, words, is, parts, next) = c.unpack_block.ensures.block in
    λ values listed.
    let found = in_order_found lanes c.BLOCK_LEN-len.result c.args.header.count c.loop-index.index c.loop-index.last c.args.header.kind c.loop-index.kind values c.loop-index.rest.now
    c.unpack_block.new.block part c.unpack_block.result.1.now c.first_out.result g.met.P.BitPacker.some_lanes whole (rw whole at c.loop-index-test.true) listed.words listed.long
    words is parts c.first_out.ensures (c.loop-index.invariant.ordered values listed) c.in-Some.position c.in-Some.is in
    rw (← found) refl

pub loop-index-preserved : goal.loop-index-preserved
loop-index-preserved g c =
    let lanes : ℕ = g.P.BitPacker.lanes in
    let count : ℕ = c.args.header.count in
    let i : ℕ = c.loop-index.index in
    let rest : List ℕ = c.loop-index.rest.now in
    let block : List ℕ = c.unpack_block.new.block in
    let whole : c.BLOCK_LEN-len.result ≡ 32 * lanes = c.BLOCK_LEN-len.ensures ∙ g.met.P.BitPacker.block_len in
    let lt : i < whole_blocks lanes count = rw whole at c.loop-index-test.true in
    let (part, words, is, parts, next) = c.unpack_block.ensures.block in
    let right = right_left lanes (4 * tail_values lanes count) (whole_blocks lanes count) i rest lt c.loop-index.invariant.right in
    let after = after_right lanes i c.loop-index.kind block part c.unpack_block.result.1.now rest words is parts in
    record {
      right = rw after at right.1;
      ordered = λ values listed.
          rw next (in_order_step lanes c.BLOCK_LEN-len.result count i c.loop-index.last c.args.header.kind c.loop-index.kind values rest block part c.unpack_block.result.1.now
          c.first_out.result g.met.P.BitPacker.some_lanes whole lt listed.words listed.long words is parts c.first_out.ensures (c.loop-index.invariant.ordered values listed)
          c.in_default.is);
    }

pub first_out_of_words-requires-clause-room : goal.first_out_of_words-requires-clause-room
first_out_of_words-requires-clause-room g c =
    let lanes : ℕ = g.P.BitPacker.lanes in
    let whole : c.BLOCK_LEN-len.result ≡ 32 * lanes = c.BLOCK_LEN-len.ensures ∙ g.met.P.BitPacker.block_len in
    let long = tail_left lanes (4 * tail_values lanes c.args.header.count) (whole_blocks lanes c.args.header.count) c.loop-index.index c.loop-index.rest.now
    (rw whole at c.loop-index-test.false) c.loop-index.invariant.right in
    rw whole (omega (arith, long))

-- After the last block.
module _ (lanes len count i last : ℕ) (kind : ListKind) (block_kind : Kind) (values rest : List ℕ) (found : Option ℕ) (whole : len ≡ 32 * lanes)
    (past : count / len ≤ i) (end : i ≤ count / len)
    (finds : (all : ℕ → ℕ) → IsOrdered kind all (len * (count / len)) last → ((k : ℕ) → k < count % len → all (len * (count / len) + k) ≡ word rest k)
    → found ≡ least_below (is_out kind all) (len * (count / len) + count % len)) (words : AreWords values) (long : length values ≡ count)
    (ordered : InOrder lanes (whole_blocks lanes count) i kind values block_kind last rest) where
  found_is : found ≡ first_out kind values
  found_is = in_order_done lanes len count i last kind block_kind values rest found whole (rw whole at past) (rw whole at end) words long finds ordered

pub returns-in-Some-first_out_of_words-clause-order : goal.returns-in-Some-first_out_of_words-clause-order
returns-in-Some-first_out_of_words-clause-order g c = λ values listed.
    let found = found_is g.P.BitPacker.lanes c.BLOCK_LEN-len.result c.args.header.count c.loop-index.index c.loop-index.last c.args.header.kind c.loop-index.kind values
    c.loop-index.rest.now c.first_out_of_words.result (c.BLOCK_LEN-len.ensures ∙ g.met.P.BitPacker.block_len) c.loop-index-test.false c.loop-index.auto.index-end
    c.first_out_of_words.ensures listed.words listed.long (c.loop-index.invariant.ordered values listed) in
    rw (← found, c.in-Some-first_out_of_words.is) refl

pub returns-in-None-clause-order : goal.returns-in-None-clause-order
returns-in-None-clause-order g c = λ values listed.
    let found = found_is g.P.BitPacker.lanes c.BLOCK_LEN-len.result c.args.header.count c.loop-index.index c.loop-index.last c.args.header.kind c.loop-index.kind values
    c.loop-index.rest.now c.first_out_of_words.result (c.BLOCK_LEN-len.ensures ∙ g.met.P.BitPacker.block_len) c.loop-index-test.false c.loop-index.auto.index-end
    c.first_out_of_words.ensures listed.words listed.long (c.loop-index.invariant.ordered values listed) in
    rw (← found, c.in-None.is) refl

pub returns-in-None-clause-kind : goal.returns-in-None-clause-kind
returns-in-None-clause-kind g c = λ values entries listed are.
    let whole : c.BLOCK_LEN-len.result ≡ 32 * g.P.BitPacker.lanes = c.BLOCK_LEN-len.ensures ∙ g.met.P.BitPacker.block_len in
    in_order_kind g.P.BitPacker.lanes c.args.header.count c.loop-index.index c.loop-index.last c.args.header.kind c.loop-index.kind values c.loop-index.rest.now entries
    (rw whole at c.loop-index-test.false) (rw whole at c.loop-index.auto.index-end) are (c.loop-index.invariant.ordered values listed)
