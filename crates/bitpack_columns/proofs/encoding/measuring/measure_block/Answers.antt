-- A plain block has the width of its bounds, a sorted one that of its differences.
use Rattle.std.proofs.Common.{ℕ, List, sym, arith}
use Rattle.bitpack_groups.proofs.ForCallers.{least_width_is}
use Rattle.bitpacking.proofs.ForCallers.{AreWords-from_slice}
use Rattle.bitpack_columns.proofs.MeasureLaws.{bounds_order, plain_width}
use Rattle.bitpack_columns.specs.Columns.{codes}
use Rattle.bitpack_columns.specs.declared.column_kind.ColumnKind.TheVariants.{Sorted}
use Rattle.bitpack_columns.proofs.encoding.measuring.measure_block.Goals as goal

pub overflow_sub-greatest : goal.overflow_sub-greatest
overflow_sub-greatest c =
    let low = c.bounds-least.ensures.least in
    let top = c.bounds-least.ensures.greatest in
    let order = bounds_order c.args.block.now (omega arith) in
    omega arith

pub returns-in-Plain-clause-width : goal.returns-in-Plain-clause-width
returns-in-Plain-clause-width c =
    let block : List ℕ = c.args.block.now in
    let zeros = rw (c.bounds-least.ensures.least, c.bounds-least.ensures.greatest) at c.most_significant_bit.ensures in
    rw c.in-Plain.is (sym (plain_width block c.most_significant_bit.result (AreWords-from_slice block c.type_inv.block) (omega arith) zeros))

pub returns-in-Sorted-clause-width : goal.returns-in-Sorted-clause-width
returns-in-Sorted-clause-width c =
    rw c.in-Sorted.is (sym (least_width_is c.num_bits_sorted-width.result (codes Sorted c.args.before c.args.block.now) c.num_bits_sorted-width.ensures.width c.num_bits_sorted-width.ensures.narrow))
