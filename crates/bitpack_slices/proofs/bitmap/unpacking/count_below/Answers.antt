use Rattle.std.proofs.Common.{◌<◌, arith}
use Rattle.std.proofs.lemmas.List.Elements.{All-more}
use Rattle.bitpack_slices.proofs.bitmap.unpacking.count_below.Goals as goal

pub loop-count-preserved : goal.loop-count-preserved
loop-count-preserved c = record {
  within = omega (arith, c.loop-count-test.true);
  below = All-more (λ x. x < c.args.bound) c.args.numbers.now c.loop-count.count 0 c.loop-count-test.true c.loop-count.invariant.below c.if-numbers-count.true;
}
