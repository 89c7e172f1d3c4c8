-- One row more is packed; after the last one the words stored are the layout.
use Rattle.std.proofs.Common.{List, ◌++◌, ◌≡◌, ℕ, ◌+◌, ◌-◌, ◌*◌, ◌%◌, ◌^◌, ◌<◌, ◌≤◌, length, take, drop, get_or, bit_or, refl, sym, ◌∙◌, ap, arith}
use Rattle.std.proofs.lemmas.List.{length-take}
use Rattle.std.proofs.lemmas.Nat.{mul-add-lt, mul-le}
use Rattle.bitpacking_register.specs.Words.{shifted_left, shifted_right}
use Rattle.bitpacking.specs.Width.{Fits}
use Rattle.bitpacking.proofs.LaneEquations.{lane_code, lane_word, Layout-from_lanes}
use Rattle.bitpacking.proofs.PackedLane.{Packed-start, Packed-append, Packed-store, Packed-end, room_left, row_room}
use Rattle.bitpacking.proofs.WordsOfParts.{row_after, row_at}
use Rattle.bitpacking.proofs.RegisterLemmas.{lane-map, lane-zip2, lane-splat}
use Rattle.bitpacking.proofs.RowSteps.{codes_step, rest_step}
use Rattle.bitpacking.proofs.FrontWords.{joined-front, AreBytes-take}
use Rattle.bitpacking.proofs.kernel.rolled.RolledPack.pack.Goals as goal
use Rattle.bitpacking.proofs.kernel.rolled.RolledPack.pack.Goals.{then-filled-width-lt32, else-filled-width-lt32}

pub rows-init : goal.rows-init
rows-init g c =
    let lanes : ℕ = g.R.Register.LANES in
    let all : List ℕ = g.T.Transformer.block_codes c.args.start c.args.source.now.words.now in
    let none : lanes * 0 ≡ 0 = omega arith in
    record {
      offset = omega arith;
      filled = omega arith;
      codes = rw none (ap (λ f. f c.args.source.now.words.now) (sym c.after-transformer.ensures));
      packed = λ fits lane lt.
          rw (lane-splat 0 lanes (g.R.Register.words c.splat-pending.result) c.splat-pending.ensures lane lt)
          (Packed-start c.args.width (lane_word lanes c.args.target.now.bytes.now lane) (lane_code lanes all lane));
      are_bytes = c.requires.can.are_bytes;
      rest = refl;
      same_reference = refl;
      same_room = refl;
      loads = omega arith;
      stores = omega arith;
      inside = omega arith;
      held = omega arith;
    }

pub shift_left-requires : goal.shift_left-requires
shift_left-requires g c = c.rows.invariant.filled

pub store-requires-clause-within : goal.store-requires-clause-within
store-requires-clause-within g c =
    let there : c.rows.stored < c.args.width =
    room_left c.args.width c.rows.i c.rows.stored c.rows.filled c.rows-test.true
    c.rows.invariant.offset c.if-filled-width-lt32.false c.rows.invariant.filled in
    row_room g.R.Register.LANES c.rows.stored c.args.width (length c.rows.target.bytes.now) there
    (omega (arith, c.rows.invariant.same_room, c.requires.can.can.room))

pub store-requires-clause-loaded : goal.store-requires-clause-loaded
store-requires-clause-loaded g c =
    omega (arith, c.rows.invariant.inside, c.requires.can.bits, c.load.ensures.counts.inside, c.if-filled-width-lt32.false)

pub rows-preserved : goal.rows-preserved
rows-preserved g c =
    let lanes : ℕ = g.R.Register.LANES in
    let count = g.met.R.Register.words_count in
    let width : ℕ = c.args.width in
    let i : ℕ = c.rows.i in
    let values : List ℕ = c.args.source.now.words.now in
    let all : List ℕ = g.T.Transformer.block_codes c.args.start values in
    let codes : List ℕ = g.R.Register.words c.transform-codes.result in
    let pending : List ℕ = g.R.Register.words c.rows.pending in
    let left : List ℕ = g.T.Transformer.codes c.transform-codes.new.self (drop (lanes * (i + 1)) values) in
    let given : drop (lanes * i) all ≡ codes ++ left =
    codes_step lanes i all values (g.R.Register.words c.load.result) codes (g.T.Transformer.codes c.rows.transformer)
    (g.T.Transformer.codes c.transform-codes.new.self) c.rows.invariant.codes c.load.ensures.words c.transform-codes.ensures in
    let next : drop (lanes * (i + 1)) all ≡ left = row_after lanes i all codes left (count c.transform-codes.result) given in
    let code : (lane : ℕ) → lane < lanes → lane_code lanes all lane i ≡ get_or codes lane 0 =
    λ lane lt. row_at lanes i all codes left lane (count c.transform-codes.result) given lt in
    let small : Fits all width → (lane : ℕ) → lane < lanes → get_or codes lane 0 < 2 ^ width =
    λ fits lane lt. rw (code lane lt) at (fits (i * lanes + lane) 0
    (omega (arith, (g.met.T.Transformer.codes_count c.args.start c.args.source.now.words.now ∙ c.requires.can.can.whole), mul-add-lt i lanes lane 32 c.rows-test.true lt))) in
    let word : (lane : ℕ) → lane < lanes
    → get_or (g.R.Register.words c.or-word.result) lane 0
    ≡ bit_or (get_or pending lane 0) ((get_or codes lane 0 * 2 ^ c.rows.filled) % 2 ^ 32) =
    λ lane lt. lane-zip2 bit_or lanes pending (g.R.Register.words c.shift_left.result) (g.R.Register.words c.or-word.result)
    (count c.rows.pending) (count c.shift_left.result) c.or-word.ensures lane lt
    ∙ ap (λ x. bit_or (get_or pending lane 0) x)
    (lane-map (shifted_left c.rows.filled) lanes codes (g.R.Register.words c.shift_left.result)
    (count c.transform-codes.result) c.shift_left.ensures lane lt) in
    let there : 32 ≤ c.rows.filled + width → c.rows.stored < width =
    λ full. room_left width i c.rows.stored c.rows.filled c.rows-test.true
    c.rows.invariant.offset full c.rows.invariant.filled in
    elim c.if-filled-width-lt32.branch [
      | then-filled-width-lt32 w ↦ rw (w.target-is, w.pending-is, w.filled-is, w.stored-is, w.steps-is) (record {
        offset = omega arith;
        filled = omega arith;
        codes = next;
        packed = λ fits lane lt. rw (word lane lt)
            (Packed-append width (lane_word lanes c.rows.target.bytes.now lane) (lane_code lanes all lane)
            i c.rows.stored c.rows.filled (get_or pending lane 0) (get_or codes lane 0)
            (code lane lt) (small fits lane lt) c.rows.invariant.offset (omega arith) (c.rows.invariant.packed fits lane lt));
        are_bytes = c.rows.invariant.are_bytes;
        rest = c.rows.invariant.rest;
        same_reference = c.rows.invariant.same_reference;
        same_room = c.rows.invariant.same_room;
        loads = omega (arith, c.rows.invariant.loads, c.load.ensures.counts.loads);
        stores = omega (arith, c.rows.invariant.stores, c.load.ensures.counts.stores);
        inside = omega (arith, c.rows.invariant.inside, c.requires.can.bits, c.load.ensures.counts.inside);
        held = omega (arith, c.rows.invariant.held, c.rows.invariant.inside, c.requires.can.bits, c.load.ensures.counts.held);
      })
      | else-filled-width-lt32 w ↦ rw (w.target-is, w.pending-is, w.filled-is, w.stored-is, w.steps-is) (record {
        offset = omega arith;
        filled = omega arith;
        codes = next;
        packed = λ fits lane lt.
            rw (lane-map (shifted_right (32 - c.rows.filled)) lanes codes (g.R.Register.words w.shift_right-pending.result)
            (count c.transform-codes.result) w.shift_right-pending.ensures lane lt)
            (Packed-store width (lane_word lanes c.rows.target.bytes.now lane) (lane_word lanes w.store.new.self.bytes.now lane)
            (lane_code lanes all lane) i c.rows.stored c.rows.filled (get_or pending lane 0) (get_or codes lane 0)
            (code lane lt) (small fits lane lt) c.rows.invariant.offset w.if-filled-width-lt32.false (omega arith)
            (λ q h. w.store.ensures.before (lanes * q + lane)
            (omega (arith, mul-le lanes (q + 1) lanes c.rows.stored (omega arith) (omega arith))))
            (w.store.ensures.stored lane lt ∙ word lane lt)
            (c.rows.invariant.packed fits lane lt));
        are_bytes = w.store.ensures.are_bytes;
        rest = rest_step (4 * lanes) c.rows.stored width w.store.new.self.bytes.now c.rows.target.bytes.now c.args.target.now.bytes.now
            (there w.if-filled-width-lt32.false) w.store.ensures.rest c.rows.invariant.rest;
        same_reference = w.store.ensures.same_reference ∙ c.rows.invariant.same_reference;
        same_room = w.store.ensures.room ∙ c.rows.invariant.same_room;
        loads = omega (arith, c.rows.invariant.loads, c.load.ensures.counts.loads, w.store.ensures.counts.loads);
        stores = omega (arith, c.rows.invariant.stores, c.load.ensures.counts.stores, w.store.ensures.counts.stores);
        inside = omega (arith, c.rows.invariant.inside, c.requires.can.bits, c.load.ensures.counts.inside, w.store.ensures.counts.inside, w.if-filled-width-lt32.false);
        held = omega (arith, c.rows.invariant.held, c.rows.invariant.inside, c.requires.can.bits, c.load.ensures.counts.held, w.store.ensures.counts.held, c.rows.invariant.filled);
      })
    ]

pub returns-clause-packed : goal.returns-clause-packed
returns-clause-packed g c =
    let lanes : ℕ = g.R.Register.LANES in
    let width : ℕ = c.args.width in
    let bytes : List ℕ = c.rows.target.bytes.now in
    let values : List ℕ = c.args.source.now.words.now in
    let all : List ℕ = g.T.Transformer.block_codes c.args.start values in
    let whole : c.rows.i ≡ 32 = omega arith in
    record {
      same_reference = c.rows.invariant.same_reference;
      packed = record {
        layout = λ fits. Layout-from_lanes lanes width all (take (4 * lanes * width) bytes)
            (AreBytes-take bytes (4 * lanes * width) c.rows.invariant.are_bytes)
            g.met.R.Register.some_lanes (g.met.T.Transformer.codes_count c.args.start values ∙ c.requires.can.can.whole)
            (simp length-take (omega (arith, c.rows.invariant.same_room, c.requires.can.can.room))) fits
            (λ lane lt. record {
              same =
                  joined-front lanes width bytes lane lt
                  ∙ Packed-end width (lane_word lanes bytes lane) (lane_code lanes all lane)
                  c.rows.i c.rows.stored c.rows.filled (get_or (g.R.Register.words c.rows.pending) lane 0)
                  whole c.rows.invariant.offset c.rows.invariant.filled (c.rows.invariant.packed fits lane lt);
            });
        rest = c.rows.invariant.rest;
        count = ap (λ n. 4 * n * c.args.width) c.LANES.ensures;
      };
    }
