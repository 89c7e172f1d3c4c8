-- The ids of a range are written at the start of the slice.
use Rattle.std.proofs.Common.{ap, arith, length, length-take-le}
use Rattle.bitpack_wide.proofs.StatedLaws.{count_is}
use Rattle.bitpack_wide.proofs.wide_set.WideSet.copy_range.Goals as goal

pub returns-then-from-self-clause-len : goal.returns-then-from-self-clause-len
returns-then-from-self-clause-len c = omega (arith, count_is c.args.self.now)

pub unpack_from-requires-clause-begin : goal.unpack_from-requires-clause-begin
unpack_from-requires-clause-begin c =
    let e = ap length c.form.ensures.ids in
    omega (arith, c.if-from-self.false, count_is c.args.self.now)

pub unpack_from-requires-clause-within : goal.unpack_from-requires-clause-within
unpack_from-requires-clause-within c =
    let e = ap length c.form.ensures.ids in
    let room = length-take-le c.min-count.result c.args.out.now (omega (arith, c.min-count.ensures)) in
    omega (arith, c.if-from-self.false, c.min-count.ensures, count_is c.args.self.now)

pub returns-clause-len : goal.returns-clause-len
returns-clause-len c = omega (arith, c.min-count.ensures, count_is c.args.self.now)
