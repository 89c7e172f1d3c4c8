-- One byte more is written.
use Rattle.std.proofs.Common.{◌+◌, length-set, refl, ◌∙◌, arith}
use Rattle.bitpack_slices.proofs.lemmas.bytes.BytesWritten.{one_set, part_set}
use Rattle.bitpack_slices.proofs.slice.reading.unpack_bytes.Goals as goal
use Rattle.bitpack_groups.proofs.ForCallers.{lent_len}

pub loop-i-init : goal.loop-i-init
loop-i-init c = record { size = lent_len c.args.at _ c.args.out.now (omega arith); values = refl }

pub loop-i-preserved : goal.loop-i-preserved
loop-i-preserved c =
    let size = c.loop-i.invariant.size in
    record {
      size = length-set c.loop-i.positions _ _ ∙ size;
      values = one_set (λ i. c.args.base + i) c.loop-i.positions c.args.bytes.now c.loop-i.i c.loop-i-test.true (omega arith) c.loop-i.invariant.values;
    }

pub returns-clause-values : goal.returns-clause-values
returns-clause-values c =
    part_set (λ i. c.args.base + i) c.args.out.now c.loop-i.positions c.args.bytes.now c.args.at c.loop-i.i (omega arith) c.loop-i.invariant.size c.loop-i-test.false c.loop-i.invariant.values
