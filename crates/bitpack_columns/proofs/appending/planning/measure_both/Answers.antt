-- A filled block is measured, and the later ones.
use Rattle.std.proofs.Common.{◌≡◌, ◌/◌, ◌<◌, ◌++◌, ℕ, List, length, get_or, ap, ◌∙◌, arith, rules, length-append}
use Rattle.std.specs.Prelude.{max}
use Rattle.bitpacking.proofs.ForCallers.{AreWords-from_slice}
use Rattle.bitpack_columns.specs.declared.column_kind.ColumnKind.{ColumnKind}
use Rattle.bitpack_columns.specs.Columns.{mark_in, sum_to}
use Rattle.bitpack_columns.specs.Measured.{width_after}
use Rattle.bitpack_columns.specs.Numbers.{greatest}
use Rattle.bitpack_columns.proofs.MeasureLaws.{total_few}
use Rattle.bitpack_columns.proofs.SplitLaws.{filled_split, measured_split, one_block, widths_split}
use Rattle.bitpack_columns.proofs.appending.planning.measure_both.Goals as goal

pub overflow_add-result : goal.overflow_add-result
overflow_add-result c =
    let filled : List ℕ = c.args.filled.now in
    let later : List ℕ = c.args.later.now in
    let one = total_few c.args.kind c.args.before filled (length filled / 128) (AreWords-from_slice filled c.type_inv.filled) in
    let more = total_few c.args.kind (get_or filled 127 0) later (length later / 128) (AreWords-from_slice later c.type_inv.later) in
    record {
      fits = omega (arith, one, more, length-append filled later, c.requires.few, c.measure_blocks-one.ensures.measured.total_is, c.measure_blocks-more.ensures.measured.total_is);
    }

pub returns-clause-measured : goal.returns-clause-measured
returns-clause-measured c =
    let kind : ColumnKind = c.args.kind in
    let before : ℕ = c.args.before in
    let filled : List ℕ = c.args.filled.now in
    let later : List ℕ = c.args.later.now in
    let some : 0 < length filled = search rules in
    let long : length filled ≡ 128 = one_block filled c.requires.whole some in
    let blocks : length filled / 128 ≡ 1 = omega (arith, long) in
    let one = c.measure_blocks-one.result in
    let more = c.measure_blocks-more.result in
    let top : c.max.result ≡ max one.greatest more.greatest = omega (arith, c.max.ensures) in
    rw top
    (measured_split kind before filled later (filled ++ later) 1 (get_or filled 127 0) (filled_split kind before filled later long) one.total one.greatest more.total more.greatest more.last
    (c.measure_blocks-one.ensures.measured.total_is ∙ ap (sum_to (width_after kind before filled)) blocks)
    (c.measure_blocks-one.ensures.measured.most_is ∙ ap (greatest (mark_in kind filled)) blocks) c.measure_blocks-more.ensures.measured)

pub returns-clause-widths : goal.returns-clause-widths
returns-clause-widths c =
    let filled : List ℕ = c.args.filled.now in
    let later : List ℕ = c.args.later.now in
    let some : 0 < length filled = search rules in
    let long : length filled ≡ 128 = one_block filled c.requires.whole some in
    let split = filled_split c.args.kind c.args.before filled later long in
    let size : length c.measure_blocks-one.new.widths ≡ 1 = omega (arith, c.measure_blocks-one.auto.widths, c.split_at_mut-first.ensures.front_len) in
    widths_split c.args.kind c.args.before filled later (filled ++ later) 1 (get_or filled 127 0) split c.measure_blocks-one.new.widths c.measure_blocks-more.new.widths size
    c.measure_blocks-one.ensures.widths c.measure_blocks-more.ensures.widths
