-- The sum of the codes up to the index is the value there.
use Rattle.std.proofs.Common.{ℕ, List, get_or, refl, ◌∙◌, ap}
use Rattle.bitpack_columns.specs.declared.column_kind.ColumnKind.TheVariants.{Sorted}
use Rattle.bitpack_columns.specs.Opened.{blocks_of}
use Rattle.bitpack_columns.specs.Reads.{body_at, values_of, width_at}
use Rattle.bitpack_columns.proofs.OpenedLaws.{value_by_sum}
use Rattle.bitpack_columns.proofs.column.Column.value_in_block.Goals as goal

pub returns-in-Sorted-clause-value : goal.returns-in-Sorted-clause-value
returns-in-Sorted-clause-value c =
    let column = c.args.self.now in
    let before : ℕ = c.read_before.result in
    let index : ℕ = c.args.index in
    let rest : List ℕ = column.rest.bytes.now in
    let sum = c.sum.ensures ∙ ap (λ xs. get_or (values_of Sorted before xs) index 0) c.unpack_codes.ensures.codes in
    value_by_sum column c.args.block c.requires.block (width_at rest c.args.block) (body_at (blocks_of column) rest c.args.block) refl refl
    before index c.sum.result c.in-Sorted.is c.read_before.ensures.first c.read_before.ensures.later sum
