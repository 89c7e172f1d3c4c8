-- A key is two bytes.
use Rattle.std.proofs.Common.{◌+◌, ◌*◌, arith, refl}
use Rattle.bitpack_groups.proofs.ForCallers.{cut_byte, short_two}
use Rattle.bitpack_sets.proofs.directory.key_at.Goals as goal

pub returns : goal.returns
returns c =
    let e = short_two 1 c.args.chunk c.args.rest.now 2 refl in
    let from = 1 + 2 * c.args.chunk in
    let low = cut_byte from (3 + 2 * c.args.chunk) 0 from c.args.rest.now (omega arith) (omega arith) in
    let high = cut_byte from (3 + 2 * c.args.chunk) 1 (from + 1) c.args.rest.now (omega arith) (omega arith) in
    omega (arith, c.from_le_bytes.ensures)
