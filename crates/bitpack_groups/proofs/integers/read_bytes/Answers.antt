-- An integer of one, two or three bytes.
use Rattle.std.proofs.Common.{◌≡◌, arith, sym}
use Rattle.bitpack_groups.proofs.IntegerReads.{short_one, short_three, short_two}
use Rattle.bitpack_groups.proofs.integers.read_bytes.Goals as goal

pub returns-then-size-eq1 : goal.returns-then-size-eq1
returns-then-size-eq1 c = sym (short_one c.args.start c.args.index c.args.bytes.now c.args.size c.if-size-eq1.true)

pub returns-then-size-eq2 : goal.returns-then-size-eq2
returns-then-size-eq2 c = let e = short_two c.args.start c.args.index c.args.bytes.now c.args.size c.if-size-eq2.true in omega arith

pub returns : goal.returns
returns c =
    let three : c.args.size ≡ 3 = omega (arith, c.requires.size.0, c.requires.size.1, c.if-size-eq1.false, c.if-size-eq2.false) in
    let e = short_three c.args.start c.args.index c.args.bytes.now c.args.size three in
    omega arith
