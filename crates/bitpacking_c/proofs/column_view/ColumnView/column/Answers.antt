-- No bytes have no values.
use Rattle.std.proofs.Common.{◌≡◌, ℕ, List, [], ◌∷◌, length, refl, sym, ◌∙◌, arith}
use Rattle.bitpack_columns.specs.Numbers.{groups_codes}
use Rattle.bitpack_columns.specs.Stated.{values_in}
use Rattle.bitpacking_c.proofs.column_view.ColumnView.column.Goals as goal

none_of_none : (bytes : List ℕ) → length bytes ≡ 0 → values_in bytes ≡ []
unfolding groups_codes values_in
none_of_none [] e = refl
none_of_none (x ∷ xs) e = absurd (omega arith)

pub returns-then-self-eq0-clause-values : goal.returns-then-self-eq0-clause-values
returns-then-self-eq0-clause-values c = c.no_values.ensures.values ∙ sym (none_of_none c.args.self.now.bytes.now c.if-self-eq0.true)
