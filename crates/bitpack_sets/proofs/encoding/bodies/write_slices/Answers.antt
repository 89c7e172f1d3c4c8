-- One slice more, alone or with the bytes before it.
use Rattle.std.proofs.Common.{◌-◌, length, get_or, drop, sym, arith, rules, ◌∙◌, length-drop}
use Rattle.std.proofs.lemmas.List.{length-take-le}
use Rattle.bitpack_sets.proofs.lemmas.written.PartsFilled.{end_room, next_is, slice_room, slices_end, slices_long, slices_short, slices_start}
use Rattle.bitpack_sets.proofs.lemmas.written.RunLaws.{slice_rises}
use Rattle.bitpack_sets.proofs.encoding.bodies.write_slices.Goals as goal
use Rattle.bitpack_sets.proofs.encoding.bodies.write_slices.Goals.{then-end-first-ge32, else-end-first-ge32}

pub loop-index-init : goal.loop-index-init
loop-index-init c = slices_start c.args.ids.now c.args.ends.now c.args.out.now c.requires.chunk c.requires.ends c.requires.slices

pub overflow_sub-end : goal.overflow_sub-end
overflow_sub-end c =
    let next = next_is c.args.ids.now c.args.ends.now c.loop-index.out c.loop-index.index c.loop-index.from c.loop-index.begin c.loop-index.written c.loop-index.invariant c.loop-index-test.true in
    let above = next.above in
    omega arith

pub slice_bounds-write_slice-end : goal.slice_bounds-write_slice-end
slice_bounds-write_slice-end c =
    let (room, within, before, top, above) = slice_room c.args.ids.now c.args.ends.now c.loop-index.out c.loop-index.index c.loop-index.from c.loop-index.begin c.loop-index.written
    c.loop-index.invariant c.loop-index-test.true c.byte_len.result c.byte_len.ensures in
    search rules

pub slice_bounds-write_slice-end-then-end-first-ge32 : goal.slice_bounds-write_slice-end-then-end-first-ge32
slice_bounds-write_slice-end-then-end-first-ge32 c =
    let (room, within, before, top, above) = slice_room c.args.ids.now c.args.ends.now c.loop-index.out c.loop-index.index c.loop-index.from c.loop-index.begin c.loop-index.written
    c.loop-index.invariant c.loop-index-test.true c.byte_len.result c.byte_len.ensures in
    search rules

pub write_slice-requires-clause-rising : goal.write_slice-requires-clause-rising
write_slice-requires-clause-rising c =
    let next = next_is c.args.ids.now c.args.ends.now c.loop-index.out c.loop-index.index c.loop-index.from c.loop-index.begin c.loop-index.written c.loop-index.invariant c.loop-index-test.true in
    slice_rises (get_or c.args.ends.now c.loop-index.index 0 - c.loop-index.begin) (drop c.loop-index.begin c.args.ids.now) c.loop-index.invariant.ends_left.chunk next.run

pub loop-index-preserved : goal.loop-index-preserved
loop-index-preserved c = elim c.if-end-first-ge32.branch [
  | then-end-first-ge32 w ↦ rw (w.out-is, w.from-is, w.written-is)
      (slices_long c.args.ids.now c.args.ends.now c.loop-index.out c.loop-index.index c.loop-index.from c.loop-index.begin c.loop-index.written c.loop-index.invariant c.loop-index-test.true
      _ _ w.byte_len.result w.copy_lows.new.out w.write_slice.new.out (omega arith) (omega arith) w.byte_len.ensures w.copy_lows.ensures w.write_slice.ensures)
  | else-end-first-ge32 w ↦ rw (w.out-is, w.from-is, w.written-is)
      (slices_short c.args.ids.now c.args.ends.now c.loop-index.out c.loop-index.index c.loop-index.from c.loop-index.begin c.loop-index.written c.loop-index.invariant c.loop-index-test.true
      w.if-end-first-ge32.false)
]

pub copy_lows-requires-2 : goal.copy_lows-requires-2
copy_lows-requires-2 c =
    let (a, b, e) = end_room c.args.ids.now c.args.ends.now c.loop-index.out c.loop-index.index c.loop-index.from c.loop-index.begin c.loop-index.written c.loop-index.invariant
    c.loop-index-test.false in
    let f = length-drop c.loop-index.from c.args.ids.now in
    let g = length-drop c.loop-index.written c.loop-index.out in
    length-take-le (length c.loop-index.out - c.loop-index.written) (drop c.loop-index.written c.loop-index.out) (omega arith) ∙ e
    ∙ sym (length-take-le (length c.args.ids.now - c.loop-index.from) (drop c.loop-index.from c.args.ids.now) (omega arith))

pub returns : goal.returns
returns c =
    slices_end c.args.ids.now c.args.ends.now c.loop-index.out c.copy_lows-2.new.out c.loop-index.index c.loop-index.from c.loop-index.begin c.loop-index.written c.loop-index.invariant
    c.loop-index-test.false c.copy_lows-2.ensures
