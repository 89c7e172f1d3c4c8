-- One body more is appended.
use Rattle.std.proofs.Common.{◌≡◌, ◌+◌, ◌-◌, ◌*◌, ◌/◌, ◌<◌, ◌≤◌, ◌++◌, ℕ, List, length, take, drop, sym, ◌∙◌, ap, arith}
use Rattle.std.proofs.lemmas.List.{drop-append-le, take-append-le, length-append, length-drop, take_all}
use Rattle.bitpacking.specs.declared.kind.Kind.{Kind}
use Rattle.bitpacking.specs.Codes.{AreWords}
use Rattle.bitpacking.specs.Layout.{size}
use Rattle.bitpacking.specs.Width.{IsWidth}
use Rattle.bitpacking.proofs.ForCallers.{AreWords-from_slice}
use Rattle.bitpack_lists.specs.declared.list_kind.ListKind.{ListKind}
use Rattle.bitpack_lists.specs.Parts.{whole_blocks}
use Rattle.bitpack_lists.specs.inner.Opening.{HasBodies}
use Rattle.bitpack_lists.specs.Version2.{block_of, kind_at, last_at, tail_start, width_at}
use Rattle.bitpack_lists.proofs.lemmas.blocks.BlockLemmas.{AreWords-block_of, kind_at-next, next_block, next_left}
use Rattle.bitpack_lists.proofs.lemmas.blocks.EntryLemmas.{bodies_step, body_end, kind_at-append, last_at-append, widths_before-append}
use Rattle.bitpack_lists.proofs.lemmas.v1.OneEncoding1.{narrow_least}
use Rattle.bitpack_lists.proofs.v2.writing.write_bodies.Goals as goal

-- The rest of the encoding, as the code lends it.
lent : (start : ℕ) (items seen : List ℕ) → seen ≡ items → take (length seen - start) (drop start seen) ≡ drop start items
lent start items seen e = take_all (length seen - start) (drop start seen) (omega (arith, length-drop start seen)) ∙ ap (drop start) e

-- The next block, where its width was read.
module _ (lanes len i start width : ℕ) (kind : ListKind) (block_kind : Kind) (values left part out seen : List ℕ) (some : 1 ≤ lanes) (whole : len ≡ 32 * lanes)
    (left_is : left ≡ drop (32 * lanes * i) values) (within : i < length values / len) (front : part ≡ take len left) (same : seen ≡ out)
    (read : width ≡ width_at (take (length seen - start) (drop start seen)) i) (kind_is : block_kind ≡ kind_at kind (drop start out) i)
    (has : HasBodies lanes (whole_blocks lanes (length values)) kind values (drop start out) i) where
  lt : i < whole_blocks lanes (length values)
  lt = rw whole at within

  block_is : part ≡ block_of lanes values i
  block_is = front ∙ next_block lanes len i values left some whole left_is within

  width_is : width ≡ width_at (drop start out) i
  width_is = read ∙ ap (λ xs. width_at xs i) (lent start out seen same)

  least : IsWidth block_kind part width
  least = rw (kind_is, block_is, width_is) (has.entries i lt).least

  narrow : AreWords values → width ≤ 32
  narrow words = narrow_least block_kind part width (rw block_is (AreWords-block_of lanes i values words)) least

  room : length (drop start out) + size lanes width ≤ tail_start lanes (whole_blocks lanes (length values)) (drop start out)
  room =
      let blocks : ℕ = whole_blocks lanes (length values) in
      rw (has.long, width_is) (rw (has.entries i lt).offset at (body_end lanes blocks blocks (drop start out) i lt (has.entries i lt).offset))

pub write_body-requires-clause-narrow : goal.write_body-requires-clause-narrow
write_body-requires-clause-narrow g c =
    narrow g.P.BitPacker.lanes c.BLOCK_LEN-len.result c.loop-index.index c.args.start c.read_entry-entry.result.width c.args.kind c.loop-index.block_kind c.args.values.now
    c.loop-index.left.now c.split_at.result.0.now c.loop-index.out.items c.deref.result.now g.met.P.BitPacker.some_lanes
    (c.BLOCK_LEN-len.ensures ∙ g.met.P.BitPacker.block_len) c.loop-index.invariant.left c.loop-index-test.true c.split_at.ensures.front c.deref.ensures.value
    c.read_entry-entry.ensures.entry.width c.loop-index.invariant.kind c.loop-index.invariant.has
    (AreWords-from_slice c.args.values.now c.type_inv.values)

pub write_body-requires-clause-fits : goal.write_body-requires-clause-fits
write_body-requires-clause-fits g c =
    (least g.P.BitPacker.lanes c.BLOCK_LEN-len.result c.loop-index.index c.args.start c.read_entry-entry.result.width c.args.kind c.loop-index.block_kind c.args.values.now
    c.loop-index.left.now c.split_at.result.0.now c.loop-index.out.items c.deref.result.now g.met.P.BitPacker.some_lanes
    (c.BLOCK_LEN-len.ensures ∙ g.met.P.BitPacker.block_len) c.loop-index.invariant.left c.loop-index-test.true c.split_at.ensures.front c.deref.ensures.value
    c.read_entry-entry.ensures.entry.width c.loop-index.invariant.kind c.loop-index.invariant.has).fits

pub write_body-requires-clause-room : goal.write_body-requires-clause-room
write_body-requires-clause-room g c =
    let before = c.loop-index.invariant in
    let fits = room g.P.BitPacker.lanes c.BLOCK_LEN-len.result c.loop-index.index c.args.start c.read_entry-entry.result.width c.args.kind c.loop-index.block_kind c.args.values.now
    c.loop-index.left.now c.split_at.result.0.now c.loop-index.out.items c.deref.result.now g.met.P.BitPacker.some_lanes
    (c.BLOCK_LEN-len.ensures ∙ g.met.P.BitPacker.block_len) c.loop-index.invariant.left c.loop-index-test.true c.split_at.ensures.front c.deref.ensures.value
    c.read_entry-entry.ensures.entry.width c.loop-index.invariant.kind c.loop-index.invariant.has in
    omega (
      arith,
      fits,
      before.end,
      before.capacity,
      before.long,
      length-drop c.args.start c.loop-index.out.items,
      c.requires.start,
      c.requires.room,
      c.loop-index.out.ok,
      c.args.out.now.ok,
    )

pub loop-index-preserved : goal.loop-index-preserved
loop-index-preserved g c =
    let lanes : ℕ = g.P.BitPacker.lanes in
    let i : ℕ = c.loop-index.index in
    let start : ℕ = c.args.start in
    let values : List ℕ = c.args.values.now in
    let old : List ℕ = c.loop-index.out.items in
    let rest : List ℕ = drop start old in
    let before = c.loop-index.invariant in
    let whole : c.BLOCK_LEN-len.result ≡ 32 * lanes = c.BLOCK_LEN-len.ensures ∙ g.met.P.BitPacker.block_len in
    let some = g.met.P.BitPacker.some_lanes in
    let lt : i < whole_blocks lanes (length values) = rw whole at c.loop-index-test.true in
    let block = c.split_at.ensures.front ∙ next_block lanes c.BLOCK_LEN-len.result i values c.loop-index.left.now some whole before.left c.loop-index-test.true in
    let lent_is = lent start old c.deref.result.now c.deref.ensures.value in
    let read = c.read_entry-entry.ensures.entry.width ∙ ap (λ xs. width_at xs i) lent_is in
    let last = c.read_entry-entry.ensures.entry.last ∙ ap (λ xs. last_at xs i) lent_is in
    let (body, holds, items) = c.write_body.ensures.body in
    let within : start ≤ length old = omega (arith, before.long, c.requires.start, c.args.out.now.ok) in
    let new : drop start c.write_body.new.out.items ≡ rest ++ body = ap (drop start) items ∙ drop-append-le start old body within in
    let long : 9 * whole_blocks lanes (length values) ≤ length rest = omega (arith, before.has.long) in
    record {
      left = c.split_at.ensures.back ∙ next_left lanes c.BLOCK_LEN-len.result i values c.loop-index.left.now some whole before.left c.loop-index-test.true;
      kind =
          rw new (c.next_kind-block_kind.ensures
          ∙ kind_at-next c.args.kind (rest ++ body) i c.loop-index.block_kind c.read_entry-entry.result.last
          (before.kind ∙ sym (kind_at-append rest body c.args.kind i (omega (arith, long, lt))))
          (last ∙ sym (last_at-append rest body i (omega (arith, long, lt)))));
      has = rw new (bodies_step lanes (whole_blocks lanes (length values)) c.args.kind values rest body i lt before.has (rw (← read, ← before.kind, ← block) holds));
      end = rw new (ap (λ x. 9 * whole_blocks lanes (length values) + 4 * lanes * x) (widths_before-append rest body (whole_blocks lanes (length values)) long) ∙ before.end);
      long = omega (arith, before.long, ap length items, length-append old body);
      front = ap (take start) items ∙ take-append-le start old body within ∙ before.front;
      capacity = omega (arith, before.capacity, c.write_body.ensures.capacity);
    }

pub returns-clause-bodies : goal.returns-clause-bodies
returns-clause-bodies g c =
    let whole : c.BLOCK_LEN-len.result ≡ 32 * g.P.BitPacker.lanes = c.BLOCK_LEN-len.ensures ∙ g.met.P.BitPacker.block_len in
    let values : List ℕ = c.args.values.now in
    let low : whole_blocks g.P.BitPacker.lanes (length values) ≤ c.loop-index.index = rw whole at c.loop-index-test.false in
    let high : c.loop-index.index ≤ whole_blocks g.P.BitPacker.lanes (length values) = rw whole at c.loop-index.auto.index-end in
    let end : c.loop-index.index ≡ whole_blocks g.P.BitPacker.lanes (length values) = omega (arith, low, high) in
    rw end at c.loop-index.invariant.has
