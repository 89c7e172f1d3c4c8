-- The numbers of one high byte more are counted.
use Rattle.std.proofs.Common.{get_or, length, ap, arith}
use Rattle.bitpack_slices.proofs.lemmas.bytes.DecodeLaws.{rising_top}
use Rattle.bitpack_slices.proofs.lemmas.bits.UnpackLaws.{high_counted, highs_done, lows_cut, numbers_few, those_by_high}
use Rattle.bitpack_slices.proofs.bitmap.unpacking.count_bitmap.Goals as goal
use Rattle.bitpack_slices.specs.Bitmaps.{has_bit}

pub slice_bounds-count_bits-end : goal.slice_bounds-count_bits-end
slice_bounds-count_bits-end c =
    let top = rising_top 0 256 c.loop-high.high-index c.args.highs.now c.requires c.loop-high-test.true in
    omega arith

pub overflow_add-count : goal.overflow_add-count
overflow_add-count c =
    let more = high_counted (has_bit c.args.words.now) c.loop-high.high-index c.args.highs.now c.loop-high-test.true in
    let cut = ap length (lows_cut (get_or c.args.highs.now c.loop-high.high-index 0) c.args.words.now) in
    let few = numbers_few (has_bit c.args.words.now) c.args.highs.now c.requires in
    omega arith

pub loop-high-preserved : goal.loop-high-preserved
loop-high-preserved c =
    let more = high_counted (has_bit c.args.words.now) c.loop-high.high-index c.args.highs.now c.loop-high-test.true in
    let cut = ap length (lows_cut (get_or c.args.highs.now c.loop-high.high-index 0) c.args.words.now) in
    omega arith

pub returns : goal.returns
returns c =
    let none = ap length (highs_done (has_bit c.args.words.now) c.loop-high.high-index c.args.highs.now c.loop-high-test.false) in
    let all = ap length (those_by_high (has_bit c.args.words.now) c.args.highs.now c.requires) in
    omega arith
