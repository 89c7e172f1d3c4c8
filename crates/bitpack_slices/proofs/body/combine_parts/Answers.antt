-- At most 65,536 numbers are counted.
use Rattle.std.proofs.Common.{arith}
use Rattle.bitpack_slices.proofs.lemmas.bits.BitmapLaws.{those_few}
use Rattle.bitpack_slices.proofs.body.combine_parts.Goals as goal
use Rattle.bitpack_slices.specs.Operations.{apply}
use Rattle.bitpack_slices.specs.Parts.{numbers_in_parts}
use Rattle.bitpack_slices.specs.Reads.{has}

pub overflow_add-result : goal.overflow_add-result
overflow_add-result c =
    let few = those_few 65536 (λ x. apply c.args.operation (has x (numbers_in_parts c.new-a.result)) (has x (numbers_in_parts c.new-b.result))) in
    omega (arith, c.count_as_bits.ensures, c.requires.start)
