-- The base is the mark, or the value before the block.
use Rattle.bitpack_columns.proofs.OpenedLaws.{base_plain, base_sorted}
use Rattle.std.proofs.Common.{arith}
use Rattle.bitpack_columns.proofs.column.Column.base.Goals as goal

pub returns-in-Plain : goal.returns-in-Plain
returns-in-Plain c = base_plain c.args.self.now c.args.block c.mark.result c.requires c.in-Plain.is c.mark.ensures

pub returns-in-Sorted : goal.returns-in-Sorted
returns-in-Sorted c =
    let lt = c.requires in
    base_sorted c.args.self.now c.args.block c.value_before.result (omega arith) c.in-Sorted.is c.value_before.ensures.first c.value_before.ensures.later
