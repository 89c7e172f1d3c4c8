-- One part more is appended, and then the tail.
use Rattle.std.proofs.Common.{◌≡◌, ◌+◌, ◌*◌, ◌/◌, ◌<◌, ◌≤◌, ◌++◌, ℕ, List, length, take, drop, refl, sym, subst, ◌∙◌, ap, arith, vec_len, vec_capacity}
use Rattle.std.proofs.lemmas.List.{length-drop, length-take, length-append, get_or-take}
use Rattle.std.proofs.Math.Nat.{sub-zero}
use Rattle.bitpacking.specs.declared.kind.Kind.{Kind}
use Rattle.bitpacking.specs.Bits.{AreBytes}
use Rattle.bitpacking.specs.Codes.{AreWords}
use Rattle.bitpack_lists.specs.Chains.{second_kind}
use Rattle.bitpacking.proofs.ForCallers.{AreWords-from_slice}
use Rattle.bitpack_lists.specs.Parts.{whole_blocks}
use Rattle.bitpack_lists.specs.Version1.{Blocks1}
use Rattle.bitpack_lists.proofs.lemmas.v1.OneEncoding1.{blocks_of}
use Rattle.bitpack_lists.proofs.lemmas.blocks.WriteSteps.{block-left, left-more, last-block, packable, written_step, written_room, written_tail, written_tail_room, cached_first, cached_rest}
use Rattle.bitpack_lists.proofs.v1.writing.write_blocks.Goals as goal

pub loop-index-init : goal.loop-index-init
loop-index-init g c = record {
  left = omega arith;
  capacity = omega arith;
  least = rw (c.BLOCK_LEN-len.ensures ∙ g.met.P.BitPacker.block_len) c.requires.widths;
  written = λ encoding small blocks. (encoding, small, rw sub-zero blocks, refl);
}

-- The values have an encoded list, and there is room for it.
module _ (lanes : ℕ) (kind : Kind) (values : List ℕ) (len old capacity : ℕ) (some : 1 ≤ lanes) (whole : len ≡ 32 * lanes) (words : AreWords values)
    (room : (encoding : List ℕ) → Blocks1 lanes (whole_blocks lanes (length values)) kind values encoding → old + length encoding ≤ capacity) where
  encoding_with_room : (encoding : List ℕ) × AreBytes encoding × Blocks1 lanes (length values / len) kind values encoding × (old + length encoding ≤ capacity)
  encoding_with_room =
      let blocks : ℕ = whole_blocks lanes (length values) in
      let few : 32 * lanes * blocks ≤ length values = omega arith in
      let found = blocks_of lanes blocks kind values some words few in
      let same : length values / len ≡ blocks = ap (λ n. length values / n) whole in
      (found.0, found.1, subst (λ m. Blocks1 lanes m kind values found.0) (sym same) found.2, room found.0 found.2)

pub split_at-requires : goal.split_at-requires
split_at-requires g c =
    let len : ℕ = c.BLOCK_LEN-len.result in
    let whole : len ≡ 32 * g.P.BitPacker.lanes = c.BLOCK_LEN-len.ensures ∙ g.met.P.BitPacker.block_len in
    let some = g.met.P.BitPacker.some_lanes in
    block-left len c.loop-index.index (length c.args.values.now) (length c.loop-index.rest.now) (omega arith) c.loop-index-test.true
    (rw whole c.loop-index.invariant.left)

pub width_of-width-requires : goal.width_of-width-requires
width_of-width-requires g c =
    let lanes : ℕ = g.P.BitPacker.lanes in
    let len : ℕ = c.BLOCK_LEN-len.result in
    let i : ℕ = c.loop-index.index in
    let rest : List ℕ = c.loop-index.rest.now in
    let widths : List ℕ = c.args.widths.now in
    let blocks : ℕ = length c.args.values.now / len in
    let whole : len ≡ 32 * lanes = c.BLOCK_LEN-len.ensures ∙ g.met.P.BitPacker.block_len in
    let block : c.split_at.result.0.now ≡ take (32 * lanes) rest = c.split_at.ensures.front ∙ ap (λ m. take m rest) whole in
    record {
      block = c.split_at.ensures.front_len ∙ c.BLOCK_LEN-len.ensures;
      cached = λ lt.
          let inside : i < length (take blocks widths) = simp length-take (omega arith) in
          let first = cached_first lanes c.loop-index.kind rest (take blocks widths) i inside c.loop-index.invariant.least in
          rw (block, ← get_or-take blocks widths i 0 (omega arith)) first.0;
    }

pub write_block-requires : goal.write_block-requires
write_block-requires g c =
    let lanes : ℕ = g.P.BitPacker.lanes in
    let len : ℕ = c.BLOCK_LEN-len.result in
    let n : ℕ = 32 * lanes in
    let i : ℕ = c.loop-index.index in
    let values : List ℕ = c.args.values.now in
    let rest : List ℕ = c.loop-index.rest.now in
    let whole : len ≡ n = c.BLOCK_LEN-len.ensures ∙ g.met.P.BitPacker.block_len in
    let block : c.split_at.result.0.now ≡ take n rest = c.split_at.ensures.front ∙ ap (λ m. take m rest) whole in
    let words : AreWords values = AreWords-from_slice values c.type_inv.values in
    let encoding = encoding_with_room lanes c.args.kind values len (vec_len c.args.out.now) (vec_capacity c.args.out.now) g.met.P.BitPacker.some_lanes whole words c.requires.room in
    let before = c.loop-index.invariant.written encoding.0 encoding.1 encoding.2 in
    record {
      pack = packable lanes c.width_of-width.result c.loop-index.kind c.split_at.result.0.now c.loop-index.body c.width_of-width.ensures.width
          (c.split_at.ensures.front_len ∙ whole) c.width_of-width.ensures.narrow g.met.P.BitPacker.few_lanes (omega arith);
      width = c.width_of-width.ensures.width;
      room = λ part is.
          let fits = written_room lanes (length values / len) i c.loop-index.kind rest c.loop-index.out.items part (c.args.out.now.items ++ encoding.0) c.loop-index-test.true
          (rw block at is) before in
          omega (arith, fits, length-append c.args.out.now.items encoding.0, encoding.3, c.loop-index.invariant.capacity, c.loop-index.out.ok, c.args.out.now.ok);
    }

pub loop-index-preserved : goal.loop-index-preserved
loop-index-preserved g c =
    let lanes : ℕ = g.P.BitPacker.lanes in
    let len : ℕ = c.BLOCK_LEN-len.result in
    let n : ℕ = 32 * lanes in
    let i : ℕ = c.loop-index.index in
    let values : List ℕ = c.args.values.now in
    let rest : List ℕ = c.loop-index.rest.now in
    let before = c.loop-index.invariant in
    let whole : len ≡ n = c.BLOCK_LEN-len.ensures ∙ g.met.P.BitPacker.block_len in
    let some = g.met.P.BitPacker.some_lanes in
    let room : n ≤ length rest =
    rw whole at (block-left len i (length values) (length rest) (omega arith) c.loop-index-test.true (rw whole before.left)) in
    let block : c.split_at.result.0.now ≡ take n rest = c.split_at.ensures.front ∙ ap (λ m. take m rest) whole in
    let after : c.split_at.result.1.now ≡ drop n rest = c.split_at.ensures.back ∙ ap (λ m. drop m rest) whole in
    let next : c.next_kind-kind.result ≡ second_kind lanes c.loop-index.kind rest =
    c.next_kind-kind.ensures ∙ last-block lanes c.loop-index.kind len rest c.split_at.result.0.now some whole c.split_at.ensures.front in
    let part = rw block at c.write_block.ensures.part in
    record {
      left = left-more n i (length values) (length rest) (length c.split_at.result.1.now) before.left (ap length after ∙ length-drop n rest) room;
      capacity = omega (arith, part.3.capacity);
      least = rw (next, after) (cached_rest lanes c.loop-index.kind rest (take (length values / len) c.args.widths.now) i before.least);
      written = λ encoding small blocks.
          rw (next, after)
          (written_step lanes (length values / len) i c.loop-index.kind rest c.loop-index.out.items part.0 c.write_block.new.out.items (c.args.out.now.items ++ encoding)
          some c.loop-index-test.true part.1 part.2 part.3.items (before.written encoding small blocks));
    }

pub write_all-requires : goal.write_all-requires
write_all-requires g c =
    let lanes : ℕ = g.P.BitPacker.lanes in
    let len : ℕ = c.BLOCK_LEN-len.result in
    let values : List ℕ = c.args.values.now in
    let whole : len ≡ 32 * lanes = c.BLOCK_LEN-len.ensures ∙ g.met.P.BitPacker.block_len in
    let words : AreWords values = AreWords-from_slice values c.type_inv.values in
    let encoding = encoding_with_room lanes c.args.kind values len (vec_len c.args.out.now) (vec_capacity c.args.out.now) g.met.P.BitPacker.some_lanes whole words c.requires.room in
    let before = c.loop-index.invariant.written encoding.0 encoding.1 encoding.2 in
    let fits = written_tail_room lanes (length values / len) c.loop-index.index c.loop-index.kind c.loop-index.rest.now c.loop-index.out.items (c.args.out.now.items ++ encoding.0)
    c.loop-index-test.false before in
    record {
      room = omega (arith, fits, length-append c.args.out.now.items encoding.0, encoding.3, c.loop-index.invariant.capacity, c.loop-index.out.ok, c.args.out.now.ok);
    }

pub returns : goal.returns
returns g c =
    let lanes : ℕ = g.P.BitPacker.lanes in
    let len : ℕ = c.BLOCK_LEN-len.result in
    let values : List ℕ = c.args.values.now in
    let whole : len ≡ 32 * lanes = c.BLOCK_LEN-len.ensures ∙ g.met.P.BitPacker.block_len in
    λ encoding small blocks.
    let blocks' : Blocks1 lanes (length values / len) c.args.kind values encoding = rw whole blocks in
    c.write_all.ensures.items
    ∙ written_tail lanes (length values / len) c.loop-index.index c.loop-index.kind c.loop-index.rest.now c.loop-index.out.items (c.args.out.now.items ++ encoding)
    c.loop-index-test.false (c.loop-index.invariant.written encoding small blocks')
