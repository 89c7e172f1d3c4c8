-- The bits are counted.
use Rattle.std.proofs.Common.{arith, sym}
use Rattle.bitpack_slices.proofs.lemmas.bits.CountLaws.{ones_counted}
use Rattle.bitpack_slices.proofs.lemmas.bits.OnesLaws.{ones_few}
use Rattle.bitpack_slices.proofs.bitmap.bodies.ones_in.Goals as goal

pub returns-clause-few : goal.returns-clause-few
returns-clause-few c =
    let few = ones_few c.args.word 0 64 in
    let count = ones_counted c.args.word 64 c.ranges.word.fits in
    omega arith

pub returns-clause-count : goal.returns-clause-count
returns-clause-count c = sym (ones_counted c.args.word 64 c.ranges.word.fits)
