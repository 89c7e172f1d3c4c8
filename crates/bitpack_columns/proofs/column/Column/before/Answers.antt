-- What is before a block of a sorted column.
use Rattle.std.proofs.Common.{arith}
use Rattle.bitpack_columns.proofs.OpenedLaws.{before_block}
use Rattle.bitpack_columns.proofs.column.Column.before.Goals as goal

pub returns-in-Plain : goal.returns-in-Plain
returns-in-Plain c = λ sorted. let plain = c.in-Plain.is in absurd cc

pub returns-in-Sorted : goal.returns-in-Sorted
returns-in-Sorted c = λ sorted.
    let lt = c.requires in
    before_block c.args.self.now c.args.block c.value_before.result (omega arith) sorted c.value_before.ensures.first c.value_before.ensures.later
