-- One byte more is counted.
use Rattle.std.proofs.Common.{arith, get_or, ltb}
use Rattle.bitpack_slices.proofs.lemmas.bodies.ReadLaws.{rank_done, rank_drop, byte_is, bit_le}
use Rattle.bitpack_slices.proofs.slice.search.rank_in_bytes.Goals as goal

pub loop-byte-preserved : goal.loop-byte-preserved
loop-byte-preserved c =
    let test = ltb (get_or c.args.bytes.now c.loop-byte.byte-index 0) c.args.number in
    let one = byte_is test in
    let few = bit_le test in
    let next = rank_drop c.args.number c.args.bytes.now c.loop-byte.byte-index c.loop-byte-test.true in
    record { few = omega arith; counted = omega arith }

pub returns : goal.returns
returns c = let none = rank_done c.args.number c.args.bytes.now c.loop-byte.byte-index c.loop-byte-test.false in omega arith
