-- One number more is written.
use Rattle.std.proofs.Common.{◌<◌, ◌∙◌, arith, refl}
use Rattle.bitpack_slices.proofs.lemmas.bits.EachLaws.{all_pairs, none_left, one_fewer, one_pair}
use Rattle.bitpack_slices.proofs.lemmas.bits.FourLaws.{next_is}
use Rattle.bitpack_slices.proofs.bitmap.bodies.write_ones.Goals as goal

pub loop-left-init : goal.loop-left-init
loop-left-init c = record { size = refl; count = refl; values = refl }

pub write_at-requires : goal.write_at-requires
write_at-requires c =
    let fewer = one_fewer c.loop-left.left (omega (arith, c.loop-left-test.true)) c.loop-left.auto.left-fits.fits in
    let count = c.loop-left.invariant.count in
    let size = c.loop-left.invariant.size in
    omega (arith, c.requires.room)

pub overflow_add-base : goal.overflow_add-base
overflow_add-base c =
    let next = next_is c.loop-left.left (omega (arith, c.loop-left-test.true)) c.loop-left.auto.left-fits.fits in
    let within = next.within in
    omega (arith, c.requires.fits)

pub overflow_add-next : goal.overflow_add-next
overflow_add-next c =
    let fewer = one_fewer c.loop-left.left (omega (arith, c.loop-left-test.true)) c.loop-left.auto.left-fits.fits in
    let count = c.loop-left.invariant.count in
    let size = c.loop-left.invariant.size in
    omega (arith, c.requires.room)

pub loop-left-smaller : goal.loop-left-smaller
loop-left-smaller c =
    let fewer = one_fewer c.loop-left.left (omega (arith, c.loop-left-test.true)) c.loop-left.auto.left-fits.fits in
    omega arith

pub loop-left-preserved : goal.loop-left-preserved
loop-left-preserved c =
    let some : 0 < c.loop-left.left = omega (arith, c.loop-left-test.true) in
    let fewer = one_fewer c.loop-left.left some c.loop-left.auto.left-fits.fits in
    let count = c.loop-left.invariant.count in
    record {
      size = c.write_at.ensures.len ∙ c.loop-left.invariant.size;
      count = omega arith;
      values = one_pair c.args.base c.loop-left.next c.loop-left.left c.loop-left.out _ _ some c.loop-left.auto.left-fits.fits c.write_at.ensures.bytes c.loop-left.invariant.values;
    }

pub returns-clause-len : goal.returns-clause-len
returns-clause-len c = c.loop-left.invariant.size

pub returns-clause-end : goal.returns-clause-end
returns-clause-end c =
    let none = none_left c.loop-left.left (omega (arith, c.loop-left-test.false)) in
    let count = c.loop-left.invariant.count in
    omega arith

pub returns-clause-values : goal.returns-clause-values
returns-clause-values c = all_pairs c.args.base c.loop-left.left _ _ (omega (arith, c.loop-left-test.false)) c.loop-left.invariant.values
