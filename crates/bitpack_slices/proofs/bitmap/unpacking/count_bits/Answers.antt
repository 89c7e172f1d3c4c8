-- One word more is counted.
use Rattle.std.proofs.Common.{◌*◌, ◌+◌, arith, refl}
use Rattle.bitpack_slices.proofs.lemmas.bits.BitmapLaws.{those_few, word_counted}
use Rattle.bitpack_slices.proofs.bitmap.unpacking.count_bits.Goals as goal
use Rattle.bitpack_slices.specs.Bitmaps.{has_bit}
use Rattle.bitpack_slices.specs.Operations.{those}

pub loop-word-init : goal.loop-word-init
unfolding those
loop-word-init c = refl

pub overflow_add-count : goal.overflow_add-count
overflow_add-count c =
    let more = word_counted c.args.bits.now c.loop-word.word-index ((c.type_inv.bits c.loop-word.word-index).fits) in
    let few = those_few (64 * (c.loop-word.word-index + 1)) (has_bit c.args.bits.now) in
    omega arith

pub loop-word-preserved : goal.loop-word-preserved
loop-word-preserved c =
    let more = word_counted c.args.bits.now c.loop-word.word-index ((c.type_inv.bits c.loop-word.word-index).fits) in
    omega arith
