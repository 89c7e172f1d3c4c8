-- One number more is written.
use Rattle.std.proofs.Common.{arith, length-set, refl, ◌∙◌}
use Rattle.bitpack_roaring.proofs.RunSteps.{range_put}
use Rattle.bitpack_roaring.proofs.runs.put_eight.Goals as goal

pub loop-i-preserved : goal.loop-i-preserved
loop-i-preserved c = record {
  long = length-set c.loop-i.out _ _ ∙ c.loop-i.invariant.long;
  written = λ n within fits. range_put c.args.first c.loop-i.i n _ c.loop-i.out (let long = c.loop-i.invariant.long in omega (arith, c.loop-i-test.true)) refl within fits
      c.loop-i.invariant.written;
}

pub returns : goal.returns
returns c n within fits = c.loop-i.invariant.written n (omega (arith, c.loop-i-test.false)) fits
