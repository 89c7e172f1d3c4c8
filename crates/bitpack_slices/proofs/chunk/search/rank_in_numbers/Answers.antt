-- The middle one tells which half has the rank.
use Rattle.std.proofs.Common.{◌+◌, ◌/◌, arith}
use Rattle.bitpack_slices.proofs.lemmas.numbers.HalfLaws.{pairs_len, rank_above, rank_under}
use Rattle.bitpack_slices.proofs.lemmas.bodies.ReadLaws.{rank_le}
use Rattle.bitpack_slices.proofs.chunk.search.rank_in_numbers.Goals as goal
use Rattle.bitpack_slices.specs.Slices.{pairs_of}

pub loop-left-init : goal.loop-left-init
loop-left-init c =
    let size = pairs_len c.args.body.now in
    let most = rank_le c.args.number (pairs_of c.args.body.now) in
    record { within = omega arith; low_is = omega arith; high_is = omega arith }

pub loop-left-preserved-then-number_at-number : goal.loop-left-preserved-then-number_at-number
loop-left-preserved-then-number_at-number c =
    let size = pairs_len c.args.body.now in
    let within = c.loop-left.invariant.within in
    let some = c.loop-left-test.true in
    let above = rank_above c.args.number 0 65536 (c.loop-left.low + c.loop-left.left / 2) (pairs_of c.args.body.now) c.requires (omega arith) (omega (arith, c.number_at.ensures, c.if-number_at-number.true)) in
    record { within = omega arith; low_is = omega arith; high_is = omega arith }

pub loop-left-preserved : goal.loop-left-preserved
loop-left-preserved c =
    let size = pairs_len c.args.body.now in
    let within = c.loop-left.invariant.within in
    let some = c.loop-left-test.true in
    let under = rank_under c.args.number 0 65536 (c.loop-left.low + c.loop-left.left / 2) (pairs_of c.args.body.now) c.requires (omega arith) (omega (arith, c.number_at.ensures, c.if-number_at-number.false)) in
    record { within = omega arith; low_is = omega arith; high_is = omega arith }
