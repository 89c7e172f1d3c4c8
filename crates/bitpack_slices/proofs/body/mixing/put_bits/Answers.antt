-- At most 256 numbers are counted.
use Rattle.std.proofs.Common.{arith}
use Rattle.bitpack_slices.proofs.lemmas.bits.BitmapLaws.{those_few}
use Rattle.bitpack_slices.proofs.body.mixing.put_bits.Goals as goal
use Rattle.bitpack_slices.specs.Bitmaps.{has_bit}

pub overflow_add-end : goal.overflow_add-end
overflow_add-end c = let few = those_few 256 (has_bit c.args.bits.now) in omega (arith, c.count_bits.ensures, c.requires.start)
