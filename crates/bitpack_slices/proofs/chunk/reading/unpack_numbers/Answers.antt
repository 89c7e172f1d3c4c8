-- One number more is written.
use Rattle.std.proofs.Common.{◌+◌, take, refl, arith, length-set, ◌∙◌}
use Rattle.bitpack_slices.proofs.lemmas.bytes.DecodeLaws.{all_written, more_written, none_written}
use Rattle.bitpack_slices.proofs.lemmas.numbers.HalfLaws.{pairs_len}
use Rattle.bitpack_slices.proofs.chunk.reading.unpack_numbers.Goals as goal
use Rattle.bitpack_slices.specs.Slices.{pairs_of}

pub loop-i-init : goal.loop-i-init
loop-i-init c = record { size = refl; values = none_written (λ i. c.args.base + i) c.args.out.now (pairs_of c.args.body.now) c.args.at }

pub loop-i-preserved : goal.loop-i-preserved
loop-i-preserved c =
    let size = c.loop-i.invariant.size in
    let many = pairs_len c.args.body.now in
    record {
      size = length-set c.loop-i.out _ _ ∙ size;
      values = more_written (λ i. c.args.base + i) c.loop-i.out (pairs_of c.args.body.now) (take c.args.at c.args.out.now) c.args.at c.loop-i.i c.number_at.result
          (omega arith) (omega arith) c.number_at.ensures c.loop-i.invariant.values;
    }

pub returns-clause-values : goal.returns-clause-values
returns-clause-values c =
    let many = pairs_len c.args.body.now in
    all_written (λ i. c.args.base + i) c.loop-i.out (pairs_of c.args.body.now) (take c.args.at c.args.out.now) c.args.at c.loop-i.i _ (omega (arith, c.loop-i-test.false)) (omega arith) c.loop-i.invariant.values
