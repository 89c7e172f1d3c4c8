-- One entry more is appended, whose last value is that of the block that was unpacked.
use Rattle.std.proofs.Common.{◌≡◌, ◌+◌, ◌-◌, ◌*◌, ◌^◌, ◌<◌, ◌≤◌, ℕ, List, [], ◌∷◌, length, get_or, ◌∙◌, ap, arith, rules}
use Rattle.std.proofs.Math.Nat.{sub-zero}
use Rattle.std.proofs.lemmas.List.{length-append}
use Rattle.bitpacking.specs.Words.{bytes_of_words}
use Rattle.bitpack_lists.specs.Parts.{tail_values, whole_blocks}
use Rattle.bitpack_lists.proofs.lemmas.blocks.BlockLemmas.{few_blocks}
use Rattle.bitpack_lists.proofs.lemmas.blocks.ReadSteps.{after_right, right_left}
use Rattle.bitpack_lists.proofs.lemmas.v2.UpgradeSteps.{entering_done, entering_first, entering_step}
use Rattle.bitpack_lists.proofs.v2.upgrading.write_entries.Goals as goal

pub loop-init : goal.loop-init
loop-init g c = record {
  right = rw sub-zero c.requires.tested.sound;
  few = omega arith;
  long = omega arith;
  capacity = omega arith;
  entries = λ values listed.
      rw c.first-kind.ensures (entering_first g.P.BitPacker.lanes c.args.header.count c.args.header.kind values c.args.bytes.now c.args.out.now.items listed);
}

pub bounds-rest-0 : goal.bounds-rest-0
bounds-rest-0 g c =
    let whole : c.BLOCK_LEN-len.result ≡ 32 * g.P.BitPacker.lanes = c.BLOCK_LEN-len.ensures ∙ g.met.P.BitPacker.block_len in
    (right_left g.P.BitPacker.lanes (4 * tail_values g.P.BitPacker.lanes c.args.header.count) (whole_blocks g.P.BitPacker.lanes c.args.header.count) c.loop.counter
    c.loop.rest.now (rw whole at c.loop-test.true) c.loop.invariant.right).0.some

pub unpack_block-requires-clause-right : goal.unpack_block-requires-clause-right
unpack_block-requires-clause-right g c =
    let whole : c.BLOCK_LEN-len.result ≡ 32 * g.P.BitPacker.lanes = c.BLOCK_LEN-len.ensures ∙ g.met.P.BitPacker.block_len in
    (right_left g.P.BitPacker.lanes (4 * tail_values g.P.BitPacker.lanes c.args.header.count) (whole_blocks g.P.BitPacker.lanes c.args.header.count) c.loop.counter
    c.loop.rest.now (rw whole at c.loop-test.true) c.loop.invariant.right).0

pub write-requires : goal.write-requires
write-requires g c =
    let whole : c.BLOCK_LEN-len.result ≡ 32 * g.P.BitPacker.lanes = c.BLOCK_LEN-len.ensures ∙ g.met.P.BitPacker.block_len in
    let lt : c.loop.counter < whole_blocks g.P.BitPacker.lanes c.args.header.count = rw whole at c.loop-test.true in
    omega (arith, lt, c.loop.invariant.long, c.loop.invariant.capacity, c.requires.room)

pub overflow_add-offset : goal.overflow_add-offset
overflow_add-offset g c =
    let lanes : ℕ = g.P.BitPacker.lanes in
    let some = g.met.P.BitPacker.some_lanes in
    let whole : c.BLOCK_LEN-len.result ≡ 32 * lanes = c.BLOCK_LEN-len.ensures ∙ g.met.P.BitPacker.block_len in
    let right = right_left lanes (4 * tail_values lanes c.args.header.count) (whole_blocks lanes c.args.header.count) c.loop.counter c.loop.rest.now (rw whole at c.loop-test.true)
    c.loop.invariant.right in
    let few = few_blocks lanes c.loop.counter c.args.header.count some (rw whole at c.loop-test.true) in
    let fits : c.loop.offset + get_or c.loop.rest.now 0 0 ≤ 2 ^ 28 = omega (arith, few, c.requires.tested.few, c.loop.invariant.few, right.0.narrow) in
    search (rules, fits)

pub loop-preserved : goal.loop-preserved
loop-preserved g c =
    let lanes : ℕ = g.P.BitPacker.lanes in
    let count : ℕ = c.args.header.count in
    let i : ℕ = c.loop.counter in
    let rest : List ℕ = c.loop.rest.now in
    let block : List ℕ = c.unpack_block.new.block in
    let before = c.loop.invariant in
    let whole : c.BLOCK_LEN-len.result ≡ 32 * lanes = c.BLOCK_LEN-len.ensures ∙ g.met.P.BitPacker.block_len in
    let lt : i < whole_blocks lanes count = rw whole at c.loop-test.true in
    let (part, words, is, parts, next) = c.unpack_block.ensures.block in
    let right = right_left lanes (4 * tail_values lanes count) (whole_blocks lanes count) i rest lt before.right in
    let entry : List ℕ = get_or rest 0 0 ∷ bytes_of_words (c.loop.offset ∷ get_or block (c.BLOCK_LEN-len.result - 1) 0 ∷ []) in
    let after = after_right lanes i c.loop.kind block part c.unpack_block.result.1.now rest words is parts in
    record {
      right = rw after at right.1;
      few = omega (arith, before.few, right.0.narrow);
      long = omega (arith, before.long, ap length c.write.ensures.items, length-append c.loop.out.items entry, c.write.new.out.ok, c.loop.out.ok);
      capacity = omega (arith, before.capacity, c.write.ensures.capacity);
      entries = λ values listed.
          rw next (entering_step lanes c.BLOCK_LEN-len.result count i c.loop.offset c.args.header.kind c.loop.kind values rest block part c.unpack_block.result.1.now
          c.args.out.now.items c.loop.out.items c.write.new.out.items g.met.P.BitPacker.some_lanes whole lt c.requires.tested.few listed.words listed.long words is parts
          right.0.narrow c.write.ensures.items (before.entries values listed));
    }

pub returns-clause-entries : goal.returns-clause-entries
returns-clause-entries g c =
    let lanes : ℕ = g.P.BitPacker.lanes in
    let whole : c.BLOCK_LEN-len.result ≡ 32 * lanes = c.BLOCK_LEN-len.ensures ∙ g.met.P.BitPacker.block_len in
    λ values listed.
    entering_done lanes (whole_blocks lanes c.args.header.count) c.loop.counter c.loop.offset c.args.header.kind c.loop.kind values c.loop.rest.now c.args.out.now.items
    c.loop.out.items (rw whole at c.loop-test.false) (rw whole at c.loop.auto.counter-end) (c.loop.invariant.entries values listed)

pub returns-clause-len : goal.returns-clause-len
returns-clause-len g c =
    let lanes : ℕ = g.P.BitPacker.lanes in
    let whole : c.BLOCK_LEN-len.result ≡ 32 * lanes = c.BLOCK_LEN-len.ensures ∙ g.met.P.BitPacker.block_len in
    let low : whole_blocks lanes c.args.header.count ≤ c.loop.counter = rw whole at c.loop-test.false in
    let high : c.loop.counter ≤ whole_blocks lanes c.args.header.count = rw whole at c.loop.auto.counter-end in
    omega (arith, low, high, c.loop.invariant.long)

pub returns-clause-capacity : goal.returns-clause-capacity
returns-clause-capacity g c = c.loop.invariant.capacity
