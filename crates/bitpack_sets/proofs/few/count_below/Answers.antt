-- One id more is counted.
use Rattle.std.proofs.Common.{arith, get_or, ltb}
use Rattle.bitpack_slices.proofs.ForCallers.{rank_done, rank_drop, byte_is, bit_le}
use Rattle.bitpack_sets.proofs.few.count_below.Goals as goal

pub loop-other-preserved : goal.loop-other-preserved
loop-other-preserved c =
    let test = ltb (get_or c.args.ids.now c.loop-other.other-index 0) c.args.id in
    let one = byte_is test in
    let few = bit_le test in
    let next = rank_drop c.args.id c.args.ids.now c.loop-other.other-index c.loop-other-test.true in
    record { few = omega arith; counted = omega arith }

pub returns : goal.returns
returns c = let none = rank_done c.args.id c.args.ids.now c.loop-other.other-index c.loop-other-test.false in omega arith
