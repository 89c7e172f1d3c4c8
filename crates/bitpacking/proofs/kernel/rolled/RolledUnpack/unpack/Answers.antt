-- One row more is unpacked; after the last one all values are stored.
use Rattle.std.proofs.Common.{List, ◌≡◌, ℕ, ◌+◌, ◌-◌, ◌*◌, ◌%◌, ◌/◌, ◌^◌, ◌<◌, length, take, get_or, bit_or, bit_and, refl, sym, ◌∙◌, ap, arith}
use Rattle.std.proofs.lemmas.List.{length-take}
use Rattle.std.proofs.lemmas.Nat.{mul-le}
use Rattle.bitpacking_register.specs.Words.{shifted_left, shifted_right}
use Rattle.bitpacking.specs.Words.{joined}
use Rattle.bitpacking.specs.Layout.{codes_of, Layout}
use Rattle.bitpacking.proofs.OneToOne.{Layout-codes_of}
use Rattle.bitpacking.proofs.LaneEquations.{word-lt, lane_word}
use Rattle.bitpacking.proofs.PackedLane.{row_room}
use Rattle.bitpacking.proofs.UnpackedLane.{Unpacked, Unpacked-start, Unpacked-whole, Unpacked-load, digit, digit-joined, masked, words_left, digit-code}
use Rattle.bitpacking.proofs.RegisterLemmas.{lane-map, lane-zip2, lane-splat}
use Rattle.bitpacking.proofs.FrontWords.{joined-front, AreBytes-take}
use Rattle.bitpacking.proofs.RowSteps.{values_step, values_done, rest_step}
use Rattle.bitpacking.proofs.kernel.rolled.RolledUnpack.unpack.Goals as goal
use Rattle.bitpacking.proofs.kernel.rolled.RolledUnpack.unpack.Goals.{then-left-width, else-left-width}

pub rows-init : goal.rows-init
rows-init g c =
    let lanes : ℕ = g.R.Register.LANES in
    let none : lanes * 0 ≡ 0 = omega arith in
    record {
      offset = omega arith;
      left = omega arith;
      unpacked = λ lane lt.
          rw (lane-splat 0 lanes (g.R.Register.words c.splat-pending.result) c.splat-pending.ensures lane lt)
          (Unpacked-start c.args.width (joined 32 (lane_word lanes c.args.source.now.bytes.now lane) c.args.width));
      rows_stored = c.after-sink.ensures.rows_stored;
      done = rw none (ap (λ f. f (codes_of lanes c.args.width (take (4 * lanes * c.args.width) c.args.source.now.bytes.now))) c.after-sink.ensures.values);
      rest = refl;
      same_reference = refl;
      same_room = refl;
      same_bits = refl;
      loads = omega arith;
      stores = omega arith;
      inside = omega arith;
      held = omega arith;
    }

pub load-word-requires : goal.load-word-requires
load-word-requires g c =
    let there : c.rows.loaded < c.args.width =
    words_left c.args.width c.rows.i c.rows.loaded c.rows.left c.rows-test.true c.rows.invariant.offset c.if-left-width.true in
    row_room g.R.Register.LANES c.rows.loaded c.args.width (length c.args.source.now.bytes.now) there c.requires.can.can.whole

pub put-requires-clause-within : goal.put-requires-clause-within
put-requires-clause-within g c =
    let lanes : ℕ = g.R.Register.LANES in
    rw c.rows.invariant.rows_stored
    (omega (arith, c.rows.invariant.same_room, c.requires.can.can.room, mul-le lanes (c.rows.i + 1) lanes 32 (omega arith) (omega (arith, c.rows-test.true))))

-- of the bits that were left and those that were loaded, the code has `width`
pub put-requires-clause-loaded : goal.put-requires-clause-loaded
put-requires-clause-loaded g c =
    elim c.if-left-width.branch [
      | then-left-width w ↦ rw w.steps-is
          (omega (arith, c.rows.invariant.same_bits, c.requires.can.bits, c.rows.invariant.inside, w.load-word.ensures.counts.inside))
      | else-left-width w ↦ rw w.steps-is
          (omega (arith, c.rows.invariant.same_bits, c.requires.can.bits, c.rows.invariant.inside, w.if-left-width.false))
    ]

pub rows-preserved : goal.rows-preserved
rows-preserved g c =
    let lanes : ℕ = g.R.Register.LANES in
    let count = g.met.R.Register.words_count in
    let width : ℕ = c.args.width in
    let i : ℕ = c.rows.i in
    let source : List ℕ = c.args.source.now.bytes.now in
    let pending : List ℕ = g.R.Register.words c.rows.pending in
    let number : ℕ → ℕ = λ lane. joined 32 (lane_word lanes source lane) width in
    let step : (lane : ℕ) → lane < lanes
    → (get_or (g.R.Register.words c.if-left-width.codes) lane 0 % 2 ^ width ≡ digit width (number lane) i)
    × (Unpacked width (number lane) (i + 1) c.if-left-width.loaded c.if-left-width.left
    (get_or (g.R.Register.words c.if-left-width.pending) lane 0)) =
    λ lane lt. elim c.if-left-width.branch [
      | then-left-width w ↦
          let there : c.rows.loaded < width =
          words_left width i c.rows.loaded c.rows.left c.rows-test.true c.rows.invariant.offset w.if-left-width.true in
          let words : List ℕ = g.R.Register.words w.load-word.result in
          let read : get_or words lane 0 ≡ digit 32 (number lane) c.rows.loaded =
          w.load-word.ensures.words lane lt
          ∙ sym (digit-joined 32 (lane_word lanes source lane) width c.rows.loaded
          (λ q h. word-lt source c.requires.can.are_bytes (lanes * q + lane)) there) in
          let whole : get_or (g.R.Register.words w.or-whole.result) lane 0
          ≡ bit_or (get_or pending lane 0) ((get_or words lane 0 * 2 ^ c.rows.left) % 2 ^ 32) =
          lane-zip2 bit_or lanes pending (g.R.Register.words w.shift_left.result) (g.R.Register.words w.or-whole.result)
          (count c.rows.pending) (count w.shift_left.result) w.or-whole.ensures lane lt
          ∙ ap (λ x. bit_or (get_or pending lane 0) x)
          (lane-map (shifted_left c.rows.left) lanes words (g.R.Register.words w.shift_left.result)
          (count w.load-word.result) w.shift_left.ensures lane lt) in
          let over : get_or (g.R.Register.words w.shift_right-pending.result) lane 0 ≡ get_or words lane 0 / 2 ^ (width - c.rows.left) =
          lane-map (shifted_right (width - c.rows.left)) lanes words (g.R.Register.words w.shift_right-pending.result)
          (count w.load-word.result) w.shift_right-pending.ensures lane lt in
          rw (w.codes-is, w.pending-is, w.left-is, w.loaded-is, whole, over)
          (Unpacked-load width (number lane) i c.rows.loaded c.rows.left
          (get_or pending lane 0) (get_or words lane 0)
          w.if-left-width.true (omega arith) c.rows.invariant.offset read (c.rows.invariant.unpacked lane lt))
      | else-left-width w ↦
          rw (
            w.codes-is,
            w.pending-is,
            w.left-is,
            w.loaded-is,
            lane-map (shifted_right width) lanes pending (g.R.Register.words w.shift_right-pending-else-left-width.result)
                (count c.rows.pending) w.shift_right-pending-else-left-width.ensures lane lt,
          )
          (Unpacked-whole width (number lane) i c.rows.loaded c.rows.left
          (get_or pending lane 0) w.if-left-width.false (c.rows.invariant.unpacked lane lt))
    ] in
    let front : List ℕ = take (4 * lanes * width) source in
    let codes : List ℕ = codes_of lanes width front in
    let layout : Layout lanes width codes front = Layout-codes_of lanes width front (simp length-take (omega (arith, c.requires.can.can.whole))) in
    let rows_stored : g.S.Sink.rows_stored c.rows.sink ≡ i = c.rows.invariant.rows_stored in
    record {
      offset = elim c.if-left-width.branch [
        | then-left-width w ↦ rw (w.left-is, w.loaded-is) (omega arith)
        | else-left-width w ↦ rw (w.left-is, w.loaded-is) (omega arith)
      ];
      left = elim c.if-left-width.branch [
        | then-left-width w ↦ rw w.left-is (omega arith)
        | else-left-width w ↦ rw w.left-is (omega arith)
      ];
      unpacked = λ lane lt. (step lane lt).1;
      rows_stored = c.put.ensures.rows_stored ∙ ap (λ n. n + 1) rows_stored;
      done = values_step lanes i codes (g.R.Register.words c.and.result) c.rows.target.words.now c.put.new.target.words.now
          (g.S.Sink.block_values c.args.start codes) (g.S.Sink.values c.rows.sink) (g.S.Sink.values c.put.new.self)
          layout.code_count c.rows-test.true (count c.and.result)
          (λ l lt. lane-zip2 bit_and lanes (g.R.Register.words c.if-left-width.codes) (g.R.Register.words c.splat-mask.result)
          (g.R.Register.words c.and.result) (count c.if-left-width.codes) (count c.splat-mask.result) c.and.ensures l lt
          ∙ rw (lane-splat ((1 * 2 ^ width) % 2 ^ 32 - 1) lanes (g.R.Register.words c.splat-mask.result) c.splat-mask.ensures l lt)
          (masked (get_or (g.R.Register.words c.if-left-width.codes) l 0) width c.requires.narrow)
          ∙ (step l lt).0
          ∙ ap (λ x. digit width x i) (sym (joined-front lanes width source l lt))
          ∙ digit-code lanes width codes front (AreBytes-take source (4 * lanes * width) c.requires.can.are_bytes) layout l lt i c.rows-test.true)
          (rw rows_stored at c.put.ensures.stored)
          c.rows.invariant.done;
      rest = rest_step lanes i 32 c.put.new.target.words.now c.rows.target.words.now c.args.target.now.words.now
          c.rows-test.true (rw rows_stored at c.put.ensures.rest) c.rows.invariant.rest;
      same_reference = c.put.ensures.same_reference ∙ c.rows.invariant.same_reference;
      same_room = c.put.ensures.room ∙ c.rows.invariant.same_room;
      same_bits = c.put.ensures.bits ∙ c.rows.invariant.same_bits;
      loads = elim c.if-left-width.branch [
        | then-left-width w ↦ rw w.loaded-is (omega (arith, c.rows.invariant.loads, ap (λ s. s.loads) w.steps-is, w.load-word.ensures.counts.loads, c.put.ensures.counts.loads))
        | else-left-width w ↦ rw w.loaded-is (omega (arith, c.rows.invariant.loads, ap (λ s. s.loads) w.steps-is, c.put.ensures.counts.loads))
      ];
      stores = elim c.if-left-width.branch [
        | then-left-width w ↦ omega (arith, c.rows.invariant.stores, ap (λ s. s.stores) w.steps-is, w.load-word.ensures.counts.stores, c.put.ensures.counts.stores)
        | else-left-width w ↦ omega (arith, c.rows.invariant.stores, ap (λ s. s.stores) w.steps-is, c.put.ensures.counts.stores)
      ];
      inside = elim c.if-left-width.branch [
        | then-left-width w ↦ rw w.left-is (omega (arith, c.rows.invariant.inside, c.rows.invariant.same_bits, c.requires.can.bits, ap (λ s. s.inside) w.steps-is, w.load-word.ensures.counts.inside, c.put.ensures.counts.inside))
        | else-left-width w ↦ rw w.left-is (omega (arith, c.rows.invariant.inside, c.rows.invariant.same_bits, c.requires.can.bits, ap (λ s. s.inside) w.steps-is, c.put.ensures.counts.inside))
      ];
      held = elim c.if-left-width.branch [
        | then-left-width w ↦ omega (arith, c.rows.invariant.held, c.rows.invariant.inside, ap (λ s. s.held) w.steps-is, w.load-word.ensures.counts.held, c.put.ensures.counts.held)
        | else-left-width w ↦ omega (arith, c.rows.invariant.held, ap (λ s. s.held) w.steps-is, c.put.ensures.counts.held)
      ];
    }

pub returns-clause-unpacked : goal.returns-clause-unpacked
returns-clause-unpacked g c =
    let lanes : ℕ = g.R.Register.LANES in
    let width : ℕ = c.args.width in
    let front : List ℕ = take (4 * lanes * width) c.args.source.now.bytes.now in
    let codes : List ℕ = codes_of lanes width front in
    let layout : Layout lanes width codes front = Layout-codes_of lanes width front (simp length-take (omega (arith, c.requires.can.can.whole))) in
    let block : lanes * 32 ≡ 32 * lanes = omega arith in
    record {
      same_reference = c.rows.invariant.same_reference;
      unpacked = record {
        block = (
          codes,
          layout,
          values_done lanes c.rows.i codes c.rows.target.words.now (g.S.Sink.block_values c.args.start codes)
              (g.S.Sink.values c.rows.sink) (omega arith) layout.code_count (g.met.S.Sink.values_of_none c.rows.sink)
              c.rows.invariant.done,
        );
        rest = rw block at c.rows.invariant.rest;
        count = ap (λ n. 4 * n * c.args.width) c.LANES.ensures;
      };
    }
