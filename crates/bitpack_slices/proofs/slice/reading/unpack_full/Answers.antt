-- One number more is written.
use Rattle.std.proofs.Common.{◌+◌, take, refl, arith, length-set, ◌∙◌}
use Rattle.std.specs.List.{range_with_len}
use Rattle.bitpack_slices.proofs.lemmas.bytes.DecodeLaws.{all_written, more_written, none_written, range_at}
use Rattle.bitpack_slices.proofs.slice.reading.unpack_full.Goals as goal

pub loop-i-init : goal.loop-i-init
loop-i-init c = record { size = refl; values = none_written (λ i. c.args.base + i) c.args.out.now (range_with_len 0 256) c.args.at }

pub loop-i-preserved : goal.loop-i-preserved
loop-i-preserved c =
    let size = c.loop-i.invariant.size in
    let is = range_at 0 256 c.loop-i.i c.loop-i-test.true in
    record {
      size = length-set c.loop-i.out _ _ ∙ size;
      values = more_written (λ i. c.args.base + i) c.loop-i.out (range_with_len 0 256) (take c.args.at c.args.out.now) c.args.at c.loop-i.i c.loop-i.i
          c.loop-i-test.true (omega arith) (omega arith) c.loop-i.invariant.values;
    }

pub returns-clause-values : goal.returns-clause-values
returns-clause-values c =
    all_written (λ i. c.args.base + i) c.loop-i.out (range_with_len 0 256) (take c.args.at c.args.out.now) c.args.at c.loop-i.i _ c.loop-i-test.false (omega arith) c.loop-i.invariant.values
