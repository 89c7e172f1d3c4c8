-- One row more is packed.
use Rattle.std.proofs.Common.{List, ◌≡◌, ℕ, ◌+◌, ◌-◌, ◌*◌, ◌/◌, ◌%◌, ◌^◌, ◌<◌, length, get_or, bit_or, sym, ◌∙◌, arith}
use Rattle.bitpacking_register.specs.Words.{shifted_right}
use Rattle.bitpacking.proofs.PackedLane.{row_room}
use Rattle.bitpacking.proofs.PackedRows.{row_word, nothing_over, RowsPacked-append, RowsPacked-store, PacksRows-append, PacksRows-store}
use Rattle.bitpacking.proofs.RegisterLemmas.{lane-map, lane-splat, lane-or_shifted}
use Rattle.bitpacking.proofs.RowSteps.{rest_step}
use Rattle.bitpacking.proofs.kernel.unrolled.pack_rows.Goals as goal
use Rattle.bitpacking.proofs.kernel.unrolled.pack_rows.Goals.{then-filled-width-lt32, else-filled-width-lt32, then-filled-width-gt32, else-filled-width-gt32}

pub store-requires-clause-within : goal.store-requires-clause-within
store-requires-clause-within g c =
    row_room g.R.Register.LANES (c.loop-i.i * c.args.width / 32) c.args.width (length c.loop-i.target.bytes.now)
    (row_word c.args.width c.loop-i.i (omega (arith, c.loop-i-test.true, c.requires.from)) (omega (arith, c.if-filled-width-lt32.false)))
    (omega (arith, c.requires.room, c.loop-i.invariant.same_room))

pub loop-i-preserved : goal.loop-i-preserved
loop-i-preserved g c =
    let lanes : ℕ = g.R.Register.LANES in
    let count = g.met.R.Register.words_count in
    let i : ℕ = c.loop-i.i in
    let width : ℕ = c.args.width in
    let values : List ℕ = c.args.source.now.words.now in
    let given : List ℕ = g.R.Register.words c.transform-codes.result in
    let pending : List ℕ = g.R.Register.words c.loop-i.pending in
    let word : List ℕ = g.R.Register.words c.or-word.result in
    let last : i < 32 = omega (arith, c.loop-i-test.true, c.requires.from) in
    let old : List ℕ → List ℕ = g.T.Transformer.codes c.loop-i.transformer in
    let new : List ℕ → List ℕ = g.T.Transformer.codes c.transform-codes.new.self in
    let joined_to : (l : ℕ) → l < lanes
    → get_or word l 0 ≡ bit_or (get_or pending l 0) ((get_or given l 0 * 2 ^ (i * width % 32)) % 2 ^ 32) =
    lane-or_shifted (i * width % 32) lanes pending given (g.R.Register.words c.shift_left.result) word
    (count c.loop-i.pending) (count c.transform-codes.result) (count c.shift_left.result) c.shift_left.ensures c.or-word.ensures in
    elim c.if-filled-width-lt32.branch [
      | then-filled-width-lt32 w ↦ rw (w.target-is, w.pending-is, w.steps-is) (record {
        same_reference = c.loop-i.invariant.same_reference;
        same_room = c.loop-i.invariant.same_room;
        packed = λ codes from.
            RowsPacked-append lanes width i codes values (g.R.Register.words c.load.result) given old new c.loop-i.target.bytes.now pending word
            (c.loop-i.invariant.packed codes from) last c.load.ensures.words c.transform-codes.ensures (count c.transform-codes.result) joined_to
            (omega (arith, w.if-filled-width-lt32.true));
        rest = c.loop-i.invariant.rest;
        counts = PacksRows-append c.args.steps.now c.loop-i.steps c.load.new.steps width g.row.FROM i
            (omega (arith, w.if-filled-width-lt32.true)) c.loop-i.invariant.counts (rw c.requires.bits at c.load.ensures.counts);
      })
      | else-filled-width-lt32 w ↦ rw (w.target-is, w.pending-is, w.steps-is) (record {
        same_reference = w.store.ensures.same_reference ∙ c.loop-i.invariant.same_reference;
        same_room = w.store.ensures.room ∙ c.loop-i.invariant.same_room;
        packed = λ codes from.
            RowsPacked-store lanes width i codes values (g.R.Register.words c.load.result) given old new c.loop-i.target.bytes.now pending word
            (c.loop-i.invariant.packed codes from) last c.load.ensures.words c.transform-codes.ensures (count c.transform-codes.result) joined_to
            (g.R.Register.words w.if-filled-width-gt32.over) w.store.new.self.bytes.now
            w.if-filled-width-lt32.false c.requires.narrow w.store.ensures.are_bytes w.store.ensures.stored w.store.ensures.before
            (λ l lt small. elim w.if-filled-width-gt32.branch [
              | then-filled-width-gt32 w' ↦ rw w'.over-is
                  (lane-map (shifted_right (32 - i * width % 32)) lanes given (g.R.Register.words w'.shift_right-over.result)
                  (count c.transform-codes.result) w'.shift_right-over.ensures l lt)
              | else-filled-width-gt32 w' ↦ rw w'.over-is
                  (lane-splat 0 lanes (g.R.Register.words w'.splat-over.result) w'.splat-over.ensures l lt
                  ∙ sym (nothing_over (get_or given l 0) width (i * width % 32) small
                  (omega (arith, w.if-filled-width-lt32.false, w'.if-filled-width-gt32.false))))
            ]);
        rest = rest_step (4 * lanes) (i * width / 32) width w.store.new.self.bytes.now c.loop-i.target.bytes.now c.args.target.now.bytes.now
            (row_word width i last w.if-filled-width-lt32.false) w.store.ensures.rest c.loop-i.invariant.rest;
        counts = PacksRows-store c.args.steps.now c.loop-i.steps c.load.new.steps w.store.new.steps width g.row.FROM i
            w.if-filled-width-lt32.false c.requires.narrow c.loop-i.invariant.counts (rw c.requires.bits at c.load.ensures.counts) w.store.ensures.counts;
      })
    ]

pub returns-clause-packed : goal.returns-clause-packed
returns-clause-packed g c =
    let e : c.loop-i.i ≡ g.row.FROM + 8 = omega arith in
    rw e at c.loop-i.invariant.packed
