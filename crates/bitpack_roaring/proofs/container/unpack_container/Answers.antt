-- An array has two bytes for each number.
use Rattle.std.proofs.Common.{arith}
use Rattle.bitpack_roaring.proofs.BodyLaws.{array_len}
use Rattle.bitpack_roaring.proofs.container.unpack_container.Goals as goal

pub unpack_numbers-requires-clause-room : goal.unpack_numbers-requires-clause-room
unpack_numbers-requires-clause-room c =
    let long = array_len c.args.run c.args.count c.args.bytes.now c.if-run.false (omega (arith, c.if-count-le-LONGEST_ARRAY.true)) c.requires.container in
    omega (arith, c.requires.room)

pub returns-then-count-le-LONGEST_ARRAY-clause-end : goal.returns-then-count-le-LONGEST_ARRAY-clause-end
returns-then-count-le-LONGEST_ARRAY-clause-end c =
    let long = array_len c.args.run c.args.count c.args.bytes.now c.if-run.false (omega (arith, c.if-count-le-LONGEST_ARRAY.true)) c.requires.container in
    omega (arith, c.unpack_numbers.ensures.end)
