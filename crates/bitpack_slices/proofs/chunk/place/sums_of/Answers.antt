-- The numbers and the bytes of one slice more are counted.
use Rattle.std.proofs.Common.{arith, ap, get_or, sym, ◌+◌}
use Rattle.std.proofs.lemmas.List.{take_all}
use Rattle.bitpack_slices.proofs.lemmas.bits.CountLaws.{numbers_done, numbers_drop}
use Rattle.bitpack_slices.proofs.lemmas.bodies.CutLaws.{len_few, lens_more, lens_none}
use Rattle.bitpack_slices.proofs.chunk.place.sums_of.Goals as goal
use Rattle.bitpack_slices.specs.Slices.{slices_len}

pub loop-less-init : goal.loop-less-init
loop-less-init c = record { few = omega arith; small = omega arith; counted = omega arith; passed = sym (lens_none c.args.counts.now) }

pub loop-less-preserved : goal.loop-less-preserved
loop-less-preserved c =
    let next = numbers_drop c.args.counts.now c.loop-less.less-index c.loop-less-test.true in
    let few = (c.type_inv.counts c.loop-less.less-index).fits in
    let more = lens_more c.args.counts.now c.loop-less.less-index c.loop-less-test.true in
    let small = len_few (get_or c.args.counts.now c.loop-less.less-index 0 + 1) in
    record { few = omega arith; small = omega arith; counted = omega arith; passed = omega arith }

pub overflow_add-bytes : goal.overflow_add-bytes
overflow_add-bytes c = let small = len_few (get_or c.args.counts.now c.loop-less.less-index 0 + 1) in omega arith

pub returns-clause-numbers : goal.returns-clause-numbers
returns-clause-numbers c = let none = numbers_done c.args.counts.now c.loop-less.less-index c.loop-less-test.false in omega arith

pub returns-clause-bytes : goal.returns-clause-bytes
returns-clause-bytes c = let all = ap slices_len (take_all c.loop-less.less-index c.args.counts.now c.loop-less-test.false) in omega arith
