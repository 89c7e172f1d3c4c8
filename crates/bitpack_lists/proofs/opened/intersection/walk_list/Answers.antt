-- The walk begins with no value visited, and ends with all of them.
use Rattle.std.proofs.Common.{◌≡◌, ◌*◌, ◌/◌, ◌<◌, ℕ, ◌∙◌, ap, vec_capacity, arith, add-one}
use Rattle.bitpack_lists.specs.Chains.{next_kind}
use Rattle.bitpack_lists.specs.inner.Searching.{blocks_of}
use Rattle.bitpack_lists.specs.inner.Walks.{Started, started_with, values_in}
use Rattle.bitpack_lists.proofs.lemmas.opened.OpenedWalks.{block_room, opened_words}
use Rattle.bitpack_lists.proofs.lemmas.opened.OpenedLists.{few_blocks}
use Rattle.bitpack_lists.proofs.lemmas.opened.Walking.{walked_none_yet, walked_upto}
use Rattle.bitpack_lists.proofs.opened.intersection.walk_list.Goals as goal

pub loop-number-init : goal.loop-number-init
loop-number-init g c =
    let started : Started = started_with c.args.out.now.items c.args.reads.now c.args.other_reads.now in
    let other = c.args.other.now in
    let none : 32 * g.P.BitPacker.lanes * 0 ≡ 0 = omega arith in
    let few : blocks_of other < c.new.result.number = omega (arith, c.new.ensures, few_blocks g.Q.BitPacker.lanes other.count g.met.Q.BitPacker.some_lanes other.few) in
    record {
      walking = record {
        ordered = c.requires.ordered;
        walking = record {
          ordered = c.requires.other_ordered;
          cached = λ lt. absurd (omega arith);
          walked =
              rw none
              (walked_none_yet g.Q.BitPacker.lanes (values_in c.args.one.now) (values_in other) started c.new.result.number (vec_capacity c.args.out.now) (omega arith)
              (omega (arith, c.requires.room, c.args.out.now.ok)));
        };
      };
      entries = omega arith;
      blocks = omega arith;
      grown = record { entries = omega arith; blocks = omega arith };
      kind_is = c.first-first.ensures;
    }

pub returns-then-walk-clause-walking : goal.returns-then-walk-clause-walking
returns-then-walk-clause-walking g c =
    let started : Started = started_with c.args.out.now.items c.args.reads.now c.args.other_reads.now in
    let list = c.args.one.now in
    let n : ℕ = 32 * g.P.BitPacker.lanes in
    let before = c.loop-number.invariant.walking.walking in
    let whole : c.BLOCK_LEN.result ≡ n = c.BLOCK_LEN.ensures ∙ g.met.P.BitPacker.block_len in
    let lt : c.loop-number.number < list.count / n = rw whole at c.loop-number-test.true in
    let room = block_room list g.met.P.BitPacker.some_lanes c.requires.ordered
    c.loop-number.number lt in (
      c.loop-number.walk,
      record {
        ordered = c.requires.ordered;
        walking = record {
          ordered = before.ordered;
          cached = before.cached;
          walked =
              walked_upto g.Q.BitPacker.lanes (values_in list) (values_in c.args.other.now) started (n * c.loop-number.number) c.loop-number.walk.want
              c.loop-number.walk.cached.number c.loop-number.out.items (vec_capacity c.loop-number.out) c.loop-number.reads.blocks c.loop-number.other_reads 0 before.walked
              list.count (omega (arith, room)) (λ k within.
              let word = opened_words list g.met.P.BitPacker.some_lanes
              c.requires.ordered k within in
              omega (arith, word, c.if-walk.true));
        };
      },
    )

pub walk_block-requires-clause-walking : goal.walk_block-requires-clause-walking
walk_block-requires-clause-walking g c =
    let started : Started = started_with c.args.out.now.items c.args.reads.now c.args.other_reads.now in
    (started, rw c.skip_key-last.ensures.blocks c.loop-number.invariant.walking)

pub loop-number-preserved : goal.loop-number-preserved
loop-number-preserved g c =
    let started : Started = started_with c.args.out.now.items c.args.reads.now c.args.other_reads.now in
    record {
      walking = c.walk_block.ensures.walking started (rw c.skip_key-last.ensures.blocks c.loop-number.invariant.walking);
      entries = omega (arith, c.walk_block.ensures.reads.entries, c.skip_key-last.ensures.entries, c.loop-number.invariant.entries);
      blocks = omega (arith, c.walk_block.ensures.reads.blocks, c.skip_key-last.ensures.blocks, c.loop-number.invariant.blocks);
      grown = record {
        entries = omega (arith, c.walk_block.ensures.reads.grown.entries, c.skip_key-last.ensures.entries, c.loop-number.invariant.grown.entries);
        blocks = omega (arith, c.walk_block.ensures.reads.grown.blocks, c.skip_key-last.ensures.blocks, c.loop-number.invariant.grown.blocks);
      };
      kind_is =
          rw add-one
          (c.next_kind-kind.ensures ∙ ap (λ k. next_kind k c.skip_key-last.result) c.first-first.ensures ∙ ap (next_kind _) c.skip_key-last.ensures.skip_key);
    }

pub walk_tail-requires : goal.walk_tail-requires
walk_tail-requires g c =
    let started : Started = started_with c.args.out.now.items c.args.reads.now c.args.other_reads.now in
    let list = c.args.one.now in
    let whole : c.BLOCK_LEN.result ≡ 32 * g.P.BitPacker.lanes = c.BLOCK_LEN.ensures ∙ g.met.P.BitPacker.block_len in
    let end : c.loop-number.number ≡ list.count / c.BLOCK_LEN.result = omega arith in
    let last : c.loop-number.number ≡ blocks_of list = end ∙ ap (λ m. list.count / m) whole in
    (started, c.loop-number.reads.blocks, rw last at c.loop-number.invariant.walking)

pub returns-clause-walking : goal.returns-clause-walking
returns-clause-walking g c =
    let started : Started = started_with c.args.out.now.items c.args.reads.now c.args.other_reads.now in
    let list = c.args.one.now in
    let whole : c.BLOCK_LEN.result ≡ 32 * g.P.BitPacker.lanes = c.BLOCK_LEN.ensures ∙ g.met.P.BitPacker.block_len in
    let end : c.loop-number.number ≡ list.count / c.BLOCK_LEN.result = omega arith in
    let last : c.loop-number.number ≡ blocks_of list = end ∙ ap (λ m. list.count / m) whole in
    (c.walk_tail.new.walk, c.walk_tail.ensures.walking started c.loop-number.reads.blocks (rw last at c.loop-number.invariant.walking))
