-- One byte more is counted.
use Rattle.std.proofs.Common.{length, ap, arith}
use Rattle.bitpack_groups.proofs.Lengths.{longest_number}
use Rattle.bitpack_groups.proofs.NumberLemmas.{number-large, number-small}
use Rattle.bitpack_groups.proofs.numbers.number_len.Goals as goal

pub loop-left-preserved : goal.loop-left-preserved
loop-left-preserved c =
    let more = ap length (number-large c.loop-left.left c.loop-left-test.true (omega arith)) in
    record { counted = omega (arith, more, c.loop-left.invariant.counted) }

pub overflow_add-len : goal.overflow_add-len
overflow_add-len c = record { fits = omega (arith, c.loop-left.invariant.counted, longest_number c.args.value) }

pub returns : goal.returns
returns c =
    let last = ap length (number-small c.loop-left.left c.loop-left-test.false) in
    record {
      len = omega (arith, last, c.loop-left.invariant.counted);
      few = omega (arith, last, c.loop-left.invariant.counted, longest_number c.args.value);
    }
