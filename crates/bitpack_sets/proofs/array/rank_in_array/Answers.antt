-- The middle one tells which half has the rank.
use Rattle.std.proofs.Common.{◌+◌, ◌/◌, ◌^◌, arith}
use Rattle.bitpack_slices.proofs.ForCallers.{quads_len, rank_above, rank_le, rank_under}
use Rattle.bitpack_sets.proofs.array.rank_in_array.Goals as goal
use Rattle.bitpack_slices.specs.Slices.{quads_of}

pub loop-left-init : goal.loop-left-init
loop-left-init c =
    let size = quads_len c.args.rest.now in
    let most = rank_le c.args.id (quads_of c.args.rest.now) in
    record { within = omega arith; low_is = omega arith; high_is = omega arith }

pub loop-left-preserved-then-id_at-id : goal.loop-left-preserved-then-id_at-id
loop-left-preserved-then-id_at-id c =
    let size = quads_len c.args.rest.now in
    let within = c.loop-left.invariant.within in
    let some = c.loop-left-test.true in
    let above = rank_above c.args.id 0 (2 ^ 32) (c.loop-left.low + c.loop-left.left / 2) (quads_of c.args.rest.now) c.requires (omega arith) (omega (arith, c.id_at.ensures, c.if-id_at-id.true)) in
    record { within = omega arith; low_is = omega arith; high_is = omega arith }

pub loop-left-preserved : goal.loop-left-preserved
loop-left-preserved c =
    let size = quads_len c.args.rest.now in
    let within = c.loop-left.invariant.within in
    let some = c.loop-left-test.true in
    let under = rank_under c.args.id 0 (2 ^ 32) (c.loop-left.low + c.loop-left.left / 2) (quads_of c.args.rest.now) c.requires (omega arith) (omega (arith, c.id_at.ensures, c.if-id_at-id.false)) in
    record { within = omega arith; low_is = omega arith; high_is = omega arith }
