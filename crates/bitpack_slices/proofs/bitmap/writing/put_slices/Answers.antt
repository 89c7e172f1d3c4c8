-- The count and the slice of one high byte more.
use Rattle.std.proofs.Common.{List, ℕ, ◌+◌, ◌*◌, ◌++◌, ◌∙◌, ap, get_or, length, take, arith}
use Rattle.bitpack_slices.proofs.lemmas.bits.BitmapLaws.{those_few}
use Rattle.bitpack_slices.proofs.lemmas.bits.UnpackLaws.{lows_cut}
use Rattle.bitpack_slices.proofs.lemmas.bodies.PartLaws.{part_more, parts_done}
use Rattle.bitpack_slices.proofs.lemmas.bytes.DecodeLaws.{rising_top}
use Rattle.bitpack_slices.proofs.bitmap.writing.put_slices.Goals as goal
use Rattle.bitpack_slices.specs.Bitmaps.{has_bit}
use Rattle.bitpack_slices.specs.Bodies.{slice}

pub slice_bounds-bits-end : goal.slice_bounds-bits-end
slice_bounds-bits-end c =
    let top = rising_top 0 256 c.loop-index.index c.args.highs.now c.requires.highs c.loop-index-test.true in
    omega arith

pub overflow_sub-counts : goal.overflow_sub-counts
overflow_sub-counts c =
    let some = c.requires.some c.loop-index.index c.loop-index-test.true in
    let cut = ap length (lows_cut (get_or c.args.highs.now c.loop-index.index 0) c.args.words.now) in
    let count = c.count_bits-count.ensures in
    omega arith

pub overflow_cast-counts : goal.overflow_cast-counts
overflow_cast-counts c =
    let high = get_or c.args.highs.now c.loop-index.index 0 in
    let cut = ap length (lows_cut high c.args.words.now) in
    let few = those_few 256 (λ i. has_bit c.args.words.now (256 * high + i)) in
    let count = c.count_bits-count.ensures in
    omega arith

pub loop-index-preserved : goal.loop-index-preserved
loop-index-preserved c =
    let own = lows_cut (get_or c.args.highs.now c.loop-index.index 0) c.args.words.now in
    part_more (has_bit c.args.words.now) c.args.highs.now c.args.slices.now c.loop-index.counts c.loop-index.slices c.put_slice_at-end.new.out c.loop-index.index c.loop-index.end
    c.count_bits-count.result c.put_slice_at-end.result c.loop-index-test.true c.requires.room c.loop-index.invariant (c.count_bits-count.ensures ∙ ap length own) c.put_slice_at-end.ensures.end
    c.put_slice_at-end.auto.out (c.put_slice_at-end.ensures.written ∙ ap (λ (l : List ℕ). take c.loop-index.end c.loop-index.slices ++ slice l) own)

pub returns-clause-few : goal.returns-clause-few
returns-clause-few c =
    (parts_done (has_bit c.args.words.now) c.args.highs.now c.args.slices.now c.loop-index.counts c.loop-index.slices c.loop-index.index c.loop-index.end (omega arith) c.loop-index.invariant).0
