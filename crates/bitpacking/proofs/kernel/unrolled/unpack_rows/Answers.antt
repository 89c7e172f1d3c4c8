-- One row more is unpacked.
use Rattle.std.proofs.Common.{List, ◌≡◌, ℕ, ◌+◌, ◌-◌, ◌<◌, length, get_or, ◌∙◌, ap, arith}
use Rattle.bitpacking_register.specs.Words.{shifted_right}
use Rattle.bitpacking.specs.inner.Partway.{RowsUnpacked, words_to, left_at}
use Rattle.bitpacking.proofs.PackedLane.{row_room}
use Rattle.bitpacking.proofs.RegisterLemmas.{lane-map, lane-or_shifted}
use Rattle.bitpacking.proofs.RowSteps.{rest_step}
use Rattle.bitpacking.proofs.UnpackedRows.{lane_number, word_there, lane-load, lane-whole, lane-masked, RowsUnpacked-next, UnpacksRows-whole, UnpacksRows-load}
use Rattle.bitpacking.proofs.kernel.unrolled.unpack_rows.Goals as goal
use Rattle.bitpacking.proofs.kernel.unrolled.unpack_rows.Goals.{then-left-width, else-left-width}

pub load-word-requires : goal.load-word-requires
load-word-requires g c =
    row_room g.R.Register.LANES (words_to c.args.width c.rows.i) c.args.width (length c.args.source.now.bytes.now)
    (word_there c.args.width c.rows.i (omega (arith, c.rows-test.true, c.requires.from)) c.if-left-width.true) c.requires.whole

pub rows-preserved : goal.rows-preserved
rows-preserved g c =
    let lanes : ℕ = g.R.Register.LANES in
    let count = g.met.R.Register.words_count in
    let i : ℕ = c.rows.i in
    let width : ℕ = c.args.width in
    let bytes : List ℕ = c.args.source.now.bytes.now in
    let pending : List ℕ = g.R.Register.words c.rows.pending in
    let last : i < 32 = omega (arith, c.rows-test.true, c.requires.from) in
    let rows_stored : g.S.Sink.rows_stored c.rows.sink ≡ i = c.rows.invariant.rows_stored in
    record {
      rows_stored = c.put.ensures.rows_stored ∙ ap (λ n. n + 1) rows_stored;
      same_reference = c.put.ensures.same_reference ∙ c.rows.invariant.same_reference;
      same_room = c.put.ensures.room ∙ c.rows.invariant.same_room;
      same_bits = c.put.ensures.bits ∙ c.rows.invariant.same_bits;
      unpacked = λ codes values from.
          let rows : RowsUnpacked lanes width i bytes codes (g.S.Sink.values c.rows.sink) values c.rows.target.words.now pending =
          c.rows.invariant.unpacked codes values from in
          RowsUnpacked-next lanes width i bytes codes (g.S.Sink.values c.rows.sink) (g.S.Sink.values c.put.new.self)
          values c.rows.target.words.now c.put.new.target.words.now pending (g.R.Register.words c.if-left-width.codes)
          (g.R.Register.words c.and.result) (g.R.Register.words c.if-left-width.pending) last (count c.and.result)
          (lane-masked width lanes (g.R.Register.words c.if-left-width.codes) (g.R.Register.words c.splat-mask.result)
          (g.R.Register.words c.and.result) c.requires.narrow (count c.if-left-width.codes) (count c.splat-mask.result)
          c.splat-mask.ensures c.and.ensures)
          (rw rows_stored at c.put.ensures.stored)
          (λ l lt unpacked. elim c.if-left-width.branch [
            | then-left-width w ↦ rw (w.codes-is, w.pending-is)
                (lane-load lanes width i bytes l (get_or pending l 0) (get_or (g.R.Register.words w.load-word.result) l 0)
                (get_or (g.R.Register.words w.or-codes.result) l 0) (get_or (g.R.Register.words w.shift_right-pending.result) l 0)
                rows.are_bytes last c.requires.narrow w.if-left-width.true (w.load-word.ensures.words l lt)
                (lane-or_shifted (left_at width i) lanes pending (g.R.Register.words w.load-word.result) (g.R.Register.words w.shift_left.result)
                (g.R.Register.words w.or-codes.result) (count c.rows.pending) (count w.load-word.result) (count w.shift_left.result)
                w.shift_left.ensures w.or-codes.ensures l lt)
                (lane-map (shifted_right (width - left_at width i)) lanes (g.R.Register.words w.load-word.result)
                (g.R.Register.words w.shift_right-pending.result) (count w.load-word.result) w.shift_right-pending.ensures l lt)
                unpacked)
            | else-left-width w ↦ rw (w.codes-is, w.pending-is)
                (lane-whole width (lane_number lanes width bytes l) i (get_or pending l 0)
                (get_or (g.R.Register.words w.shift_right-pending-else-left-width.result) l 0) w.if-left-width.false
                (lane-map (shifted_right width) lanes pending (g.R.Register.words w.shift_right-pending-else-left-width.result)
                (count c.rows.pending) w.shift_right-pending-else-left-width.ensures l lt)
                unpacked)
          ])
          rows;
      rest = rest_step lanes i 32 c.put.new.target.words.now c.rows.target.words.now c.args.target.now.words.now
          last (rw rows_stored at c.put.ensures.rest) c.rows.invariant.rest;
      counts = elim c.if-left-width.branch [
        | then-left-width w ↦
            UnpacksRows-load c.args.steps.now c.rows.steps w.load-word.new.steps c.put.new.steps width g.row.FROM i
            w.if-left-width.true c.requires.narrow c.rows.invariant.counts w.load-word.ensures.counts
            (rw (w.steps-is, c.rows.invariant.same_bits ∙ c.requires.bits) at c.put.ensures.counts)
        | else-left-width w ↦
            UnpacksRows-whole c.args.steps.now c.rows.steps c.put.new.steps width g.row.FROM i
            w.if-left-width.false c.rows.invariant.counts
            (rw (w.steps-is, c.rows.invariant.same_bits ∙ c.requires.bits) at c.put.ensures.counts)
      ];
    }

pub returns-clause-unpacked : goal.returns-clause-unpacked
returns-clause-unpacked g c =
    let e : c.rows.i ≡ g.row.FROM + 8 = omega arith in
    rw e at c.rows.invariant.unpacked
