-- Two bytes are a number.
use Rattle.std.proofs.Common.{◌+◌, ◌*◌, arith}
use Rattle.bitpack_groups.proofs.ForCallers.{cut_byte}
use Rattle.bitpack_slices.proofs.lemmas.numbers.HalfLaws.{pairs_at}
use Rattle.bitpack_slices.proofs.chunk.search.number_at.Goals as goal

pub returns : goal.returns
returns c =
    let e = pairs_at c.args.body.now c.args.position c.requires in
    let from = 2 * c.args.position in
    let low = cut_byte from (from + 2) 0 from c.args.body.now (omega arith) (omega arith) in
    let high = cut_byte from (from + 2) 1 (from + 1) c.args.body.now (omega arith) (omega arith) in
    omega (arith, c.from_le_bytes.ensures)
