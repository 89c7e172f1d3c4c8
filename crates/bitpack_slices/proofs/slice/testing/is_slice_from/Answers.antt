-- A short slice increases.
use Rattle.bitpack_slices.proofs.lemmas.bits.IncreaseLaws.{decide_part}
use Rattle.bitpack_slices.proofs.slice.testing.is_slice_from.Goals as goal

pub returns-then-bytes-gt32 : goal.returns-then-bytes-gt32
returns-then-bytes-gt32 c =
    decide_part c.args.count c.args.start c.args.bytes.now c.is_increasing_from.result c.if-count-lt32.true c.requires.size (λ k. (c.type_inv.bytes k).fits) c.is_increasing_from.ensures
