-- The bytes are those of the column, and a kind is found again by its number.
use Rattle.std.proofs.Common.{◌≡◌, refl, sym, ap, ◌∙◌, subst}
use Rattle.bitpack_columns.specs.declared.column_kind.ColumnKind.{ColumnKind}
use Rattle.bitpack_columns.specs.declared.column_kind.ColumnKind.TheVariants.{Plain, Sorted}
use Rattle.bitpack_columns.specs.Columns.{kind_bit}
use Rattle.bitpack_columns.specs.Opened.{encoding_of}
use Rattle.bitpack_columns.specs.Sound.{States}
use Rattle.bitpacking_c.specs.Columns.{known_kind}
use Rattle.bitpacking_c.proofs.column_view.ColumnView.of_column.Goals as goal

known_of_bit : (kind : ColumnKind) → known_kind (kind_bit kind) ≡ kind
known_of_bit Plain = refl
known_of_bit Sorted = refl

pub invariant_of-result-clause-opened : goal.invariant_of-result-clause-opened
invariant_of-result-clause-opened c = λ some.
    let parts = c.parts-parts.result in
    rw (← c.requires)
    (subst (λ kind. States (encoding_of c.args.column.now) kind parts.count parts.first parts.rest.bytes.now) (sym (ap known_kind c.number_of.ensures ∙ known_of_bit parts.kind)) c.parts-parts.ensures.states)

pub invariant_of-result-clause-counted : goal.invariant_of-result-clause-counted
invariant_of-result-clause-counted c = rw (← c.requires) c.parts-parts.ensures.count

pub invariant_of-result-clause-numbered : goal.invariant_of-result-clause-numbered
invariant_of-result-clause-numbered c = rw (← c.requires) (c.number_of.ensures ∙ ap kind_bit c.parts-parts.ensures.states.kind_is)
