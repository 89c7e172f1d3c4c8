-- In a sorted column the values within the range are between its ends.
use Rattle.std.proofs.Common.{◌-◌, max, length, ap, arith}
use Rattle.std.proofs.lemmas.List.FromFn.{length-range_with_len}
use Rattle.bitpack_columns.specs.Opened.{values}
use Rattle.bitpack_columns.proofs.WithinLaws.{ends_between}
use Rattle.bitpack_columns.proofs.column.Column.count_between_counted.Goals as goal

pub returns-in-Sorted-clause-count : goal.returns-in-Sorted-clause-count
returns-in-Sorted-clause-count c =
    let ends = c.ends_of-from in
    let all = ends_between c.args.low c.args.high (values c.args.self.now) 0 ends.result.0 ends.result.1 ends.ensures.from ends.ensures.end in
    omega (arith, ap length all, length-range_with_len (max ends.result.0 0) (ends.result.1 - max ends.result.0 0), c.saturating_sub.ensures)
