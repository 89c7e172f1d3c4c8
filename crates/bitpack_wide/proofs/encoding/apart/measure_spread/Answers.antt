-- The high words are a column, which is measured.
use Rattle.std.proofs.Common.{◌≡◌, length, ap, arith, rules}
use Rattle.std.proofs.lemmas.Option.{MatchOption-at_none}
use Rattle.bitpack_columns.specs.Columns.{encoding}
use Rattle.bitpack_columns.specs.declared.column_kind.ColumnKind.TheVariants.{Sorted}
use Rattle.bitpack_wide.proofs.ApartLaws.{column_accepted, column_is, column_small, spread_size}
use Rattle.bitpack_wide.proofs.encoding.apart.measure_spread.Goals as goal

pub unwrap-column-requires : goal.unwrap-column-requires
unwrap-column-requires c = MatchOption-at_none _ _ (column_accepted c.args.ids.now c.copy_highs.new.out c.requires.set c.copy_highs.ensures) c.encoded_len.ensures.fault

pub overflow_add-result-2 : goal.overflow_add-result-2
overflow_add-result-2 c =
    let few = c.requires.set.few in
    let small = column_small c.args.ids.now c.copy_highs.new.out c.requires.set c.copy_highs.ensures in
    let size : c.unwrap-column.result ≡ length (encoding Sorted c.copy_highs.new.out) = search rules in
    let number = c.number_len.ensures.few in
    omega arith

pub overflow_add-result-3 : goal.overflow_add-result-3
overflow_add-result-3 c =
    let few = c.requires.set.few in
    let small = column_small c.args.ids.now c.copy_highs.new.out c.requires.set c.copy_highs.ensures in
    let size : c.unwrap-column.result ≡ length (encoding Sorted c.copy_highs.new.out) = search rules in
    let number = c.number_len.ensures.few in
    omega arith

pub returns-clause-len : goal.returns-clause-len
returns-clause-len c =
    let size : c.unwrap-column.result ≡ length (encoding Sorted c.copy_highs.new.out) = search rules in
    let same = ap length (column_is c.args.ids.now c.copy_highs.new.out c.requires.set c.copy_highs.ensures) in
    let all = spread_size c.args.ids.now in
    let number = c.number_len.ensures.len in
    omega arith
