-- The numbers of one slice more are counted.
use Rattle.std.proofs.Common.{arith}
use Rattle.bitpack_slices.proofs.lemmas.bits.CountLaws.{numbers_done, numbers_drop}
use Rattle.bitpack_slices.proofs.slice.testing.count_numbers.Goals as goal

pub loop-less-preserved : goal.loop-less-preserved
loop-less-preserved c =
    let next = numbers_drop c.args.counts.now c.loop-less.less-index c.loop-less-test.true in
    let few = (c.type_inv.counts c.loop-less.less-index).fits in
    record { few = omega arith; counted = omega arith }

pub returns : goal.returns
returns c = let none = numbers_done c.args.counts.now c.loop-less.less-index c.loop-less-test.false in omega arith
