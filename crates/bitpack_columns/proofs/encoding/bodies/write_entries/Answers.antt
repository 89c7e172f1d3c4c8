-- The end, the mark and the body of one block more are written.
use Rattle.std.proofs.Common.{◌≡◌, ◌+◌, ◌-◌, ◌*◌, ◌≤◌, ℕ, List, length, refl, ◌∙◌, arith, rules}
use Rattle.bitpacking.proofs.ForCallers.{AreWords-from_slice}
use Rattle.bitpack_columns.proofs.EntryLaws.{body_room, end_small, width_cached, written_done, written_more, written_start}
use Rattle.bitpack_columns.proofs.encoding.bodies.write_entries.Goals as goal

pub loop-index-init : goal.loop-index-init
loop-index-init c = record {
  written = written_start c.args.kind c.args.before c.args.values.now c.args.start c.args.end_size c.args.mark_size c.args.ends.now c.args.marks.now c.args.bodies.now
      c.requires.ends c.requires.marks c.requires.bodies;
  room_len = refl;
}

pub measure_again-mark-requires-clause-widths : goal.measure_again-mark-requires-clause-widths
measure_again-mark-requires-clause-widths c = λ within.
    let i : ℕ = c.loop-index.index in
    let cut : 128 * i + 128 - 128 * i ≡ 128 = omega arith in
    rw cut
    (width_cached c.args.kind c.args.before c.args.values.now c.args.start c.args.end_size c.args.mark_size i c.loop-index.at c.loop-index.end c.loop-index.last c.loop-index.ends
    c.loop-index.marks c.loop-index.bodies c.loop-index.invariant.written c.loop-index-test.true c.args.widths.now c.requires.widths within)

pub slice_bounds-body-end : goal.slice_bounds-body-end
slice_bounds-body-end c =
    let i : ℕ = c.loop-index.index in
    let cut : 128 * i + 128 - 128 * i ≡ 128 = omega arith in
    let width = rw cut at c.measure_again-mark.ensures.width in
    let room : c.loop-index.at + 16 * c.measure_again-mark.result.1 ≤ length c.loop-index.bodies =
    body_room c.args.kind c.args.before c.args.values.now c.args.start c.args.end_size c.args.mark_size i c.loop-index.at c.loop-index.end c.loop-index.last c.loop-index.ends
    c.loop-index.marks c.loop-index.bodies c.loop-index.invariant.written c.loop-index-test.true c.measure_again-mark.result.1 width in
    search rules

pub overflow_add-end : goal.overflow_add-end
overflow_add-end c =
    let values : List ℕ = c.args.values.now in
    let i : ℕ = c.loop-index.index in
    let cut : 128 * i + 128 - 128 * i ≡ 128 = omega arith in
    let width = rw cut at c.measure_again-mark.ensures.width in
    record {
      fits = end_small c.args.kind c.args.before values c.args.start c.args.end_size c.args.mark_size c.loop-index.index c.loop-index.at c.loop-index.end c.loop-index.last c.loop-index.ends
          c.loop-index.marks c.loop-index.bodies c.loop-index.invariant.written c.loop-index-test.true (AreWords-from_slice values c.type_inv.values) c.requires.few c.requires.start
          c.measure_again-mark.result.1 width;
    }

pub loop-index-preserved : goal.loop-index-preserved
loop-index-preserved c =
    let i : ℕ = c.loop-index.index in
    let width : ℕ = c.measure_again-mark.result.1 in
    let cut : 128 * i + 128 - 128 * i ≡ 128 = omega arith in
    let lent : c.loop-index.at + 16 * width - c.loop-index.at ≡ 16 * width = omega arith in
    let mark_is = rw cut at c.measure_again-mark.ensures.mark in
    let width_is = rw cut at c.measure_again-mark.ensures.width in
    let body_is = rw cut at c.write_body.ensures in
    record {
      written = rw lent
          (written_more c.args.kind c.args.before c.args.values.now c.args.start c.args.end_size c.args.mark_size i c.loop-index.at c.loop-index.end c.loop-index.last c.loop-index.ends
          c.loop-index.marks c.loop-index.bodies c.loop-index.invariant.written c.loop-index-test.true c.measure_again-mark.result.0 width mark_is width_is
          c.write_at.new.out c.write_at-in-loop-index.new.out c.write_body.new.body c.write_at.ensures.len c.write_at.ensures.bytes c.write_at-in-loop-index.ensures.len
          c.write_at-in-loop-index.ensures.bytes body_is);
      room_len = c.write_body.auto.room ∙ c.loop-index.invariant.room_len;
    }

pub returns-clause-ends : goal.returns-clause-ends
returns-clause-ends c =
    (written_done c.args.kind c.args.before c.args.values.now c.args.start c.args.end_size c.args.mark_size c.loop-index.index c.loop-index.at c.loop-index.end c.loop-index.last c.loop-index.ends
    c.loop-index.marks c.loop-index.bodies c.loop-index.invariant.written (omega arith)).0

pub returns-clause-marks : goal.returns-clause-marks
returns-clause-marks c =
    (written_done c.args.kind c.args.before c.args.values.now c.args.start c.args.end_size c.args.mark_size c.loop-index.index c.loop-index.at c.loop-index.end c.loop-index.last c.loop-index.ends
    c.loop-index.marks c.loop-index.bodies c.loop-index.invariant.written (omega arith)).1

pub returns-clause-bodies : goal.returns-clause-bodies
returns-clause-bodies c =
    (written_done c.args.kind c.args.before c.args.values.now c.args.start c.args.end_size c.args.mark_size c.loop-index.index c.loop-index.at c.loop-index.end c.loop-index.last c.loop-index.ends
    c.loop-index.marks c.loop-index.bodies c.loop-index.invariant.written (omega arith)).2
