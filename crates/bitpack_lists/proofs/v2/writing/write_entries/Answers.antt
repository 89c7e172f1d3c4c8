-- One entry more is appended.
use Rattle.std.proofs.Common.{◌≡◌, ◌+◌, ◌*◌, ◌^◌, ◌<◌, ◌≤◌, ℕ, List, length, take, drop, ◌∙◌, ap, arith, rules, vec_len}
use Rattle.std.proofs.lemmas.List.{drop-append-le, get_or-take, length-append, length-take, take-append-le}
use Rattle.bitpacking.proofs.ForCallers.{AreWords-from_slice}
use Rattle.bitpack_lists.proofs.lemmas.blocks.BlockLemmas.{few_blocks, next_block, next_end, next_left}
use Rattle.bitpack_lists.specs.Chains.{second_kind}
use Rattle.bitpack_lists.specs.Parts.{whole_blocks}
use Rattle.bitpack_lists.proofs.lemmas.blocks.EntryLemmas.{entered_step}
use Rattle.bitpack_lists.proofs.lemmas.blocks.WriteSteps.{cached_first, cached_rest, last-block}
use Rattle.bitpack_lists.proofs.v2.writing.write_entries.Goals as goal

pub overflow_add-offset : goal.overflow_add-offset
overflow_add-offset g c =
    let some = g.met.P.BitPacker.some_lanes in
    let whole : c.BLOCK_LEN-len.result ≡ 32 * g.P.BitPacker.lanes = c.BLOCK_LEN-len.ensures ∙ g.met.P.BitPacker.block_len in
    let few = few_blocks g.P.BitPacker.lanes c.loop-index.index (length c.args.values.now) some (rw whole at c.loop-index-test.true) in
    let fits : c.loop-index.offset + c.width_of-width.result ≤ 2 ^ 28 = omega (arith, few, c.requires.few, c.loop-index.invariant.entered.few, c.width_of-width.ensures.narrow) in
    search (rules, fits)

pub width_of-width-requires : goal.width_of-width-requires
width_of-width-requires g c =
    let lanes : ℕ = g.P.BitPacker.lanes in
    let i : ℕ = c.loop-index.index in
    let left : List ℕ = c.loop-index.left.now in
    let blocks : ℕ = whole_blocks lanes (length c.args.values.now) in
    let widths : List ℕ = c.args.widths.now in
    let whole : c.BLOCK_LEN-len.result ≡ 32 * lanes = c.BLOCK_LEN-len.ensures ∙ g.met.P.BitPacker.block_len in
    let block : c.split_at.result.0.now ≡ take (32 * lanes) left = c.split_at.ensures.front ∙ ap (λ m. take m left) whole in
    let below : i < blocks = rw whole at c.loop-index-test.true in
    record {
      block = c.split_at.ensures.front_len ∙ c.BLOCK_LEN-len.ensures;
      cached = λ lt.
          let inside : i < length (take blocks widths) = simp length-take (omega (arith, below)) in
          let first = cached_first lanes c.loop-index.block_kind left (take blocks widths) i inside c.loop-index.invariant.least in
          rw (block, ← get_or-take blocks widths i 0 below) first.0;
    }

pub loop-index-preserved : goal.loop-index-preserved
loop-index-preserved g c =
    let lanes : ℕ = g.P.BitPacker.lanes in
    let i : ℕ = c.loop-index.index in
    let old : ℕ = vec_len c.args.out.now in
    let values : List ℕ = c.args.values.now in
    let before = c.loop-index.invariant in
    let whole : c.BLOCK_LEN-len.result ≡ 32 * lanes = c.BLOCK_LEN-len.ensures ∙ g.met.P.BitPacker.block_len in
    let some = g.met.P.BitPacker.some_lanes in
    let block = c.split_at.ensures.front ∙ next_block lanes c.BLOCK_LEN-len.result i values c.loop-index.left.now some whole before.left c.loop-index-test.true in
    let end = next_end lanes c.BLOCK_LEN-len.result i values c.loop-index.left.now some whole before.left c.loop-index-test.true in
    let next = entered_step lanes c.BLOCK_LEN-len.result c.width_of-width.result c.args.kind values c.split_at.result.0.now (drop old c.loop-index.out.items) i
    c.loop-index.block_kind c.loop-index.offset before.entered some whole block end c.requires.few (AreWords-from_slice values c.type_inv.values)
    c.width_of-width.ensures.width c.width_of-width.ensures.narrow in
    let after : c.split_at.result.1.now ≡ drop (32 * lanes) c.loop-index.left.now = c.split_at.ensures.back ∙ ap (λ m. drop m c.loop-index.left.now) whole in
    let next_kind_is : c.next_kind-block_kind.result ≡ second_kind lanes c.loop-index.block_kind c.loop-index.left.now =
    c.next_kind-block_kind.ensures
    ∙ last-block lanes c.loop-index.block_kind c.BLOCK_LEN-len.result c.loop-index.left.now c.split_at.result.0.now some whole c.split_at.ensures.front in
    let new = ap (drop old) c.write.ensures.items ∙ drop-append-le old c.loop-index.out.items _ (omega (arith, before.long)) in
    record {
      left = c.split_at.ensures.back ∙ next_left lanes c.BLOCK_LEN-len.result i values c.loop-index.left.now some whole before.left c.loop-index-test.true;
      entered = rw (new, c.next_kind-block_kind.ensures) next;
      least = rw (next_kind_is, after) (cached_rest lanes c.loop-index.block_kind c.loop-index.left.now
          (take (whole_blocks lanes (length values)) c.args.widths.now) i before.least);
      front = ap (take old) c.write.ensures.items ∙ take-append-le old c.loop-index.out.items _ (omega (arith, before.long)) ∙ before.front;
      long = ap length c.write.ensures.items ∙ length-append c.loop-index.out.items _ ∙ omega (arith, before.long);
      capacity = omega (arith, before.capacity, c.write.ensures.capacity);
    }
