-- One number more is written.
use Rattle.std.proofs.Common.{◌<◌, arith, refl}
use Rattle.bitpack_slices.proofs.lemmas.bits.EachLaws.{all_put, none_left, one_fewer, one_put}
use Rattle.bitpack_slices.proofs.lemmas.bits.FourLaws.{next_is}
use Rattle.bitpack_slices.proofs.bitmap.bodies.put_ones.Goals as goal

pub loop-left-init : goal.loop-left-init
loop-left-init c = record { count = refl; values = refl }

pub bounds-out-next : goal.bounds-out-next
bounds-out-next c =
    let fewer = one_fewer c.loop-left.left (omega (arith, c.loop-left-test.true)) c.loop-left.auto.left-fits.fits in
    let count = c.loop-left.invariant.count in
    omega (arith, c.requires.room)

pub overflow_add-out : goal.overflow_add-out
overflow_add-out c =
    let next = next_is c.loop-left.left (omega (arith, c.loop-left-test.true)) c.loop-left.auto.left-fits.fits in
    let within = next.within in
    omega (arith, c.requires.fits)

pub overflow_add-next : goal.overflow_add-next
overflow_add-next c =
    let fewer = one_fewer c.loop-left.left (omega (arith, c.loop-left-test.true)) c.loop-left.auto.left-fits.fits in
    let count = c.loop-left.invariant.count in
    omega (arith, c.requires.room)

pub loop-left-smaller : goal.loop-left-smaller
loop-left-smaller c =
    let fewer = one_fewer c.loop-left.left (omega (arith, c.loop-left-test.true)) c.loop-left.auto.left-fits.fits in
    omega arith

pub loop-left-preserved : goal.loop-left-preserved
loop-left-preserved c =
    let some : 0 < c.loop-left.left = omega (arith, c.loop-left-test.true) in
    let fewer = one_fewer c.loop-left.left some c.loop-left.auto.left-fits.fits in
    let count = c.loop-left.invariant.count in
    record {
      count = omega arith;
      values = one_put c.args.base c.loop-left.next c.loop-left.left c.loop-left.out _ some c.loop-left.auto.left-fits.fits (omega (arith, c.requires.room)) c.loop-left.invariant.values;
    }

pub returns-clause-end : goal.returns-clause-end
returns-clause-end c =
    let none = none_left c.loop-left.left (omega (arith, c.loop-left-test.false)) in
    let count = c.loop-left.invariant.count in
    omega arith

pub returns-clause-values : goal.returns-clause-values
returns-clause-values c = all_put c.args.base c.loop-left.left _ _ (omega (arith, c.loop-left-test.false)) c.loop-left.invariant.values
