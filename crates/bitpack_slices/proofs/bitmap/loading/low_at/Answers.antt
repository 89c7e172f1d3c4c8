-- Two bytes are the low half of an integer.
use Rattle.std.proofs.Common.{◌+◌, ◌*◌, arith}
use Rattle.bitpack_groups.proofs.ForCallers.{cut_byte}
use Rattle.bitpack_slices.proofs.lemmas.bodies.LoadLaws.{low_is}
use Rattle.bitpack_slices.proofs.bitmap.loading.low_at.Goals as goal

pub returns-clause-low : goal.returns-clause-low
returns-clause-low c =
    let e = low_is c.args.size c.args.i c.args.bytes.now c.requires.size (λ k. (c.type_inv.bytes k).fits) c.requires.within in
    let from = c.args.size * c.args.i in
    let low = cut_byte from (from + 2) 0 from c.args.bytes.now (omega arith) (omega arith) in
    let high = cut_byte from (from + 2) 1 (from + 1) c.args.bytes.now (omega arith) (omega arith) in
    omega (arith, c.from_le_bytes.ensures)
