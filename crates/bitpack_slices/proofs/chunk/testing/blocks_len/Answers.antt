-- With few numbers after the first ones of slices each slice is bytes.
use Rattle.std.proofs.Common.{arith, ap}
use Rattle.bitpack_slices.specs.Slices.{pairs_of, slice_len}
use Rattle.bitpack_slices.proofs.lemmas.bodies.CutLaws.{len_few}
use Rattle.bitpack_slices.proofs.lemmas.numbers.FewLaws.{blocks_few, slices_least}
use Rattle.bitpack_slices.proofs.lemmas.numbers.HalfLaws.{pairs_len}
use Rattle.bitpack_slices.proofs.chunk.testing.blocks_len.Goals as goal

pub overflow_sub-many : goal.overflow_sub-many
overflow_sub-many c =
    let size = pairs_len c.args.body.now in
    let few = slices_least (pairs_of c.args.body.now) in
    omega arith

pub overflow_add-result-then-many-slices-lt31 : goal.overflow_add-result-then-many-slices-lt31
overflow_add-result-then-many-slices-lt31 c =
    let size = pairs_len c.args.body.now in
    let few = slices_least (pairs_of c.args.body.now) in
    let head = len_few c.count_highs-slices.result in
    omega arith

pub overflow_add-result-then-many-slices-lt31-2 : goal.overflow_add-result-then-many-slices-lt31-2
overflow_add-result-then-many-slices-lt31-2 c =
    let size = pairs_len c.args.body.now in
    let few = slices_least (pairs_of c.args.body.now) in
    let head = len_few c.count_highs-slices.result in
    omega arith

pub returns-then-many-slices-lt31 : goal.returns-then-many-slices-lt31
returns-then-many-slices-lt31 c =
    let size = pairs_len c.args.body.now in
    let few = slices_least (pairs_of c.args.body.now) in
    let all = blocks_few (pairs_of c.args.body.now) (omega arith) in
    let same = ap slice_len c.count_highs-slices.ensures in
    omega arith
