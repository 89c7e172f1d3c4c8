-- One block more is packed at its least width, after those before it.
use Rattle.std.proofs.Common.{◌≡◌, ℕ, ◌+◌, ◌-◌, ◌*◌, ◌≤◌, List, ◌∷◌, [], ◌++◌, length, take, drop, get_or, set, add-one, refl, sym, ◌∙◌, ap, arith}
use Rattle.std.proofs.Math.Seq.{take-suc-set}
use Rattle.std.proofs.lemmas.List.{take_all, length-take, length-drop}
use Rattle.std.proofs.lemmas.List.Elements.{All-append, All-cons, All-nil}
use Rattle.std.proofs.lemmas.Nat.{mul-le}
use Rattle.bitpack_lists.specs.Chains.{next_kind}
use Rattle.bitpack_lists.proofs.lemmas.blocks.ChainLemmas.{Loose_step, LeastWidths_step, Loose_done, LeastWidths_done, take-block, length-block, take-put_end, drop-put_end, drop-further, sum-more, bound-more, block-from, drop-block}
use Rattle.bitpack_lists.proofs.lemmas.blocks.MeasuredLengths.{chained_room, chained_step}
use Rattle.bitpack_lists.proofs.lemmas.blocks.WriteSteps.{last-block}
use Rattle.bitpack_lists.proofs.chain.pack_measured.Goals as goal

pub compress_kind-written-requires : goal.compress_kind-written-requires
compress_kind-written-requires g c =
    let lanes : ℕ = g.P.BitPacker.lanes in
    let width : ℕ = c.num_bits_kind-width.result in
    let i : ℕ = c.loop-index.index in
    let blocks : ℕ = length c.args.widths.now in
    let all : length c.args.values.now ≡ 32 * lanes * blocks =
    c.requires.blocks ∙ ap (λ n. n * blocks) g.met.P.BitPacker.block_len in
    let reach : 32 * lanes * (i + 1) ≤ 32 * lanes * blocks = mul-le (32 * lanes) (i + 1) (32 * lanes) blocks (omega arith) (omega arith) in
    let values : List ℕ = c.args.values.now in
    let (size_of, (least, as_many, are, e), within) = c.requires.room in
    let block = block-from lanes c.BLOCK_LEN-len.result i values (c.BLOCK_LEN-len.ensures ∙ g.met.P.BitPacker.block_len) in
    let more = chained_room lanes i width c.loop-index.written (length c.args.out.now) c.loop-index.block_kind (drop (32 * lanes * i) values) least
    (omega (arith, as_many)) (rw block at c.num_bits_kind-width.ensures.width) (c.loop-index.invariant.measured least as_many are)
    (omega (arith, e, within)) in
    record {
      whole =
          length-block (32 * lanes) c.BLOCK_LEN-len.result i blocks c.args.values.now (c.BLOCK_LEN-len.ensures ∙ g.met.P.BitPacker.block_len)
          (omega arith) (omega arith);
      narrow = c.num_bits_kind-width.ensures.narrow;
      room = simp (length-take, length-drop) (omega arith);
      fits = c.num_bits_kind-width.ensures.width.fits;
    }

pub loop-index-preserved : goal.loop-index-preserved
loop-index-preserved g c =
    let lanes : ℕ = g.P.BitPacker.lanes in
    let len : ℕ = c.BLOCK_LEN-len.result in
    let i : ℕ = c.loop-index.index in
    let values : List ℕ = c.args.values.now in
    let widths : List ℕ = c.loop-index.widths in
    let width : ℕ = c.num_bits_kind-width.result in
    let out : List ℕ = c.loop-index.out in
    let written : ℕ = c.loop-index.written in
    let added : ℕ = c.compress_kind-written.result in
    let part : List ℕ = c.compress_kind-written.new.compressed in
    let block : List ℕ = take (i * len + len - i * len) (drop (i * len) values) in
    let before = c.loop-index.invariant in
    let Narrow : ℕ → Type 0 = λ width. width ≤ 32 in
    let some = g.met.P.BitPacker.some_lanes in
    let whole : len ≡ 32 * lanes = c.BLOCK_LEN-len.ensures ∙ g.met.P.BitPacker.block_len in
    let all : length values ≡ 32 * lanes * length c.args.widths.now =
    c.requires.blocks ∙ ap (λ n. n * length c.args.widths.now) g.met.P.BitPacker.block_len in
    let reach : 32 * lanes * i ≤ 32 * lanes * length c.args.widths.now =
    mul-le (32 * lanes) i (32 * lanes) (length c.args.widths.now) (omega arith) (omega arith) in
    let long : length block ≡ 32 * lanes =
    length-block (32 * lanes) len i (length c.args.widths.now) values whole (omega arith) (omega arith) in
    let (size_of, (least, as_many, are, e), fits) = c.requires.room in
    let within : written ≤ length out = omega (arith, e, fits, (before.measured least as_many are).1) in
    let room : length part ≡ length out - written =
    c.compress_kind-written.auto.compressed ∙ simp (length-take, length-drop) (omega arith) in
    let kind : c.next_kind-block_kind.result ≡ next_kind c.loop-index.block_kind (get_or block (32 * lanes - 1) 0) =
    c.next_kind-block_kind.ensures ∙ ap (λ n. next_kind c.loop-index.block_kind (get_or block (n - 1) 0)) whole in
    let more : take (i + 1) (set widths i width) ≡ take i widths ++ width ∷ [] =
    rw add-one (take-suc-set widths i width (omega arith)) in
    let bytes = take-put_end written added out part within room in
    let holds = rw (sym c.compress_kind-written.ensures.size) at c.compress_kind-written.ensures.packed.bytes in
    let rest = drop-put_end written added out part within room
    (rw c.compress_kind-written.ensures.size c.compress_kind-written.ensures.packed.rest) in
    let left : List ℕ = drop (32 * lanes * i) values in
    let from : block ≡ take (32 * lanes) left = block-from lanes len i values whole in
    let last = last-block lanes c.loop-index.block_kind (32 * lanes) left block some refl from in
    let after : drop (32 * lanes) left ≡ drop (32 * lanes * (i + 1)) values = drop-block lanes i values in
    record {
      written = rw more (sum-more lanes written added width (take i widths) before.written c.compress_kind-written.ensures.size);
      bound = bound-more lanes written added width i before.bound c.compress_kind-written.ensures.size c.num_bits_kind-width.ensures.narrow;
      narrow = rw more (All-append Narrow (take i widths) (width ∷ []) before.narrow
          (All-cons Narrow width [] c.num_bits_kind-width.ensures.narrow (All-nil Narrow)));
      loose =
          rw (kind, more, bytes, take-block (32 * lanes) len i values whole)
          (Loose_step lanes width c.args.kind c.loop-index.block_kind (take (32 * lanes * i) values) (take i widths) block some long
          (take written out) (take added part) c.num_bits_kind-width.ensures.narrow holds before.loose);
      least =
          rw (kind, more, take-block (32 * lanes) len i values whole)
          (LeastWidths_step lanes width c.args.kind c.loop-index.block_kind (take (32 * lanes * i) values) (take i widths) block some long
          c.num_bits_kind-width.ensures.width before.least);
      measured = λ all as_many are.
          rw (← after, kind, last)
          (chained_step lanes i width written added c.loop-index.block_kind left all (omega (arith, as_many))
          (rw from at c.num_bits_kind-width.ensures.width) c.compress_kind-written.ensures.size (before.measured all as_many are));
      rest = rest ∙ drop-further written added out c.args.out.now before.rest;
    }

pub returns : goal.returns
returns g c =
    let lanes : ℕ = g.P.BitPacker.lanes in
    let values : List ℕ = c.args.values.now in
    let blocks : ℕ = length c.args.widths.now in
    let i : ℕ = c.loop-index.index in
    let before = c.loop-index.invariant in
    let end : i ≡ blocks = omega arith in
    let all : length values ≡ 32 * lanes * blocks = c.requires.blocks ∙ ap (λ n. n * blocks) g.met.P.BitPacker.block_len in
    let whole : take (32 * lanes * i) values ≡ values = take_all (32 * lanes * i) values (rw end (omega arith)) in
    let widths : take i c.loop-index.widths ≡ c.loop-index.widths = take_all i c.loop-index.widths (omega arith) in
    record {
      size = rw widths at before.written;
      few = rw (all, ← end) before.bound;
      narrow = rw widths at before.narrow;
      chain = record {
        loose = rw (whole, widths) at (Loose_done lanes c.args.kind c.loop-index.block_kind (take (32 * lanes * i) values)
            (take i c.loop-index.widths) (take c.loop-index.written c.loop-index.out) before.loose);
        least = rw (whole, widths) at (LeastWidths_done lanes c.args.kind c.loop-index.block_kind (take (32 * lanes * i) values)
            (take i c.loop-index.widths) before.least);
      };
      rest = before.rest;
    }
