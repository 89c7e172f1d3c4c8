-- The bits of the words before, and the lower ones of the word of the bit.
use Rattle.std.proofs.Common.{◌/◌, arith}
use Rattle.bitpack_slices.proofs.lemmas.bits.BitmapLaws.{bits_counted_below, those_few}
use Rattle.bitpack_slices.proofs.bitmap.single_bits.rank_of_bit.Goals as goal
use Rattle.bitpack_slices.specs.Bitmaps.{has_bit}

pub overflow_add-result : goal.overflow_add-result
overflow_add-result c =
    let below = bits_counted_below c.args.words.now c.args.i in
    let whole = c.requires.before (c.args.i / 64) (omega (arith, c.requires.within)) in
    let few = those_few c.args.i (has_bit c.args.words.now) in
    omega (arith, c.requires.within)

pub returns : goal.returns
returns c =
    let below = bits_counted_below c.args.words.now c.args.i in
    let whole = c.requires.before (c.args.i / 64) (omega (arith, c.requires.within)) in
    omega arith
