-- Four bytes are an id.
use Rattle.std.proofs.Common.{◌+◌, ◌*◌, arith}
use Rattle.bitpack_groups.proofs.ForCallers.{cut_byte}
use Rattle.bitpack_slices.proofs.lemmas.bytes.ArrayLaws.{quads_at}
use Rattle.bitpack_slices.proofs.integers.id_at.Goals as goal

pub returns : goal.returns
returns c =
    let e = quads_at c.args.rest.now c.args.position c.requires in
    let from = 4 * c.args.position in
    let one = cut_byte from (from + 4) 0 from c.args.rest.now (omega arith) (omega arith) in
    let two = cut_byte from (from + 4) 1 (from + 1) c.args.rest.now (omega arith) (omega arith) in
    let three = cut_byte from (from + 4) 2 (from + 2) c.args.rest.now (omega arith) (omega arith) in
    let four = cut_byte from (from + 4) 3 (from + 3) c.args.rest.now (omega arith) (omega arith) in
    omega (arith, c.from_le_bytes.ensures)
