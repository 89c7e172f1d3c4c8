-- The bound of the block that was unpacked is that of the column.
use Rattle.std.proofs.Common.{sym, subst, arith}
use Rattle.std.specs.List.Sorted.{IsNonDecreasing}
use Rattle.std.proofs.lemmas.List.{length-take}
use Rattle.bitpack_columns.specs.Opened.{values}
use Rattle.bitpack_columns.specs.Searches.{IsLowerBound}
use Rattle.bitpack_columns.proofs.OpenedLaws.{few_values}
use Rattle.bitpack_columns.proofs.SeekLaws.{blocks_in_order, bound_found, bound_value, in_order}
use Rattle.bitpack_columns.proofs.column.Column.lower_bound.Goals as goal

pub count_below-requires-clause-order : goal.count_below-requires-clause-order
count_below-requires-clause-order c =
    let column = c.args.self.now in
    subst IsNonDecreasing (sym c.unpack_block-len.ensures.values) (blocks_in_order (values column) (in_order column c.requires) c.first_block-block.result)

pub overflow_mul-result : goal.overflow_mul-result
overflow_mul-result c = omega (arith, few_values c.args.self.now, c.first_block-block.ensures.within)

pub overflow_add-result : goal.overflow_add-result
overflow_add-result c =
    let read = c.unpack_block-len in
    omega (
      arith,
      few_values c.args.self.now,
      c.first_block-block.ensures.within,
      read.ensures.len,
      length-take read.result read.new.out,
      c.count_below.ensures.within,
    )

pub returns-clause-bound : goal.returns-clause-bound
returns-clause-bound c =
    let column = c.args.self.now in
    let first = c.first_block-block in
    let is = subst (λ xs. IsLowerBound xs c.args.target c.count_below.result) c.unpack_block-len.ensures.values c.count_below.ensures in
    bound_found (values column) (in_order column c.requires) c.args.target first.result c.count_below.result first.ensures.within first.ensures.before
    first.ensures.enough is

pub returns-clause-value : goal.returns-clause-value
returns-clause-value c =
    let column = c.args.self.now in
    let first = c.first_block-block in
    let read = c.unpack_block-len in
    let is = subst (λ xs. IsLowerBound xs c.args.target c.count_below.result) read.ensures.values c.count_below.ensures in
    bound_value (values column) (in_order column c.requires) c.args.target first.result c.count_below.result first.ensures.within first.ensures.before
    first.ensures.enough is read.result read.new.out read.ensures.values
