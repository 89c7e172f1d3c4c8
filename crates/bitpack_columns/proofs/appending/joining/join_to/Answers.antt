-- The values of the other column, with the base, follow.
use Rattle.std.proofs.Common.{◌≡◌, ◌++◌, ℕ, List, None, Option, ap, ◌∙◌, subst}
use Rattle.bitpack_columns.specs.declared.column_error.ColumnError.{ColumnError}
use Rattle.bitpack_columns.specs.Opened.{values}
use Rattle.bitpack_columns.specs.Written.{WritesColumn, WritesUnless, overflow, raised}
use Rattle.bitpack_columns.proofs.JoinLaws.{as_others}
use Rattle.bitpack_columns.proofs.appending.joining.join_to.Goals as goal

pub returns : goal.returns
returns c =
    let column = c.args.column.now in
    let base : ℕ = c.args.base in
    let other : List ℕ = values c.args.other.now in
    let is : c.add_base.new.values ≡ raised base other = c.in_ok-add_base.ensures.ok ∙ ap (raised base) c.copy_to-count.ensures.values in
    let none : overflow base other ≡ None = subst (λ (l : List ℕ). overflow base l ≡ None) c.copy_to-count.ensures.values c.in_ok-add_base.ensures.fault in
    let plain = subst (λ (l : List ℕ). WritesColumn column.kind (values column ++ l) c.append_to.result c.args.out.now c.append_to.new.out) is c.append_to.ensures in
    subst (λ (o : Option ColumnError). WritesUnless o column.kind (values column ++ raised base other) c.append_to.result c.args.out.now c.append_to.new.out)
    (as_others column.kind (values column) base other none) plain
