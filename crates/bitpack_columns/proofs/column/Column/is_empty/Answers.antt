-- There are as many values as the count.
use Rattle.std.proofs.Common.{◌≡◌, ℕ, List, [], ◌∷◌, length, refl, arith, ap, ◌∙◌, eqb-true, eq-eqb, sym}
use Rattle.bitpack_columns.specs.Opened.{values}
use Rattle.bitpack_columns.proofs.ReadLaws.{is_read}
use Rattle.bitpack_columns.proofs.column.Column.is_empty.Goals as goal

none : (xs : List ℕ) → length xs ≡ 0 → xs ≡ []
none [] e = refl
none (x ∷ xs) e = absurd (omega arith)

pub returns : goal.returns
returns c =
    let column = c.args.self.now in
    let e : length (values column) ≡ column.count =
    (is_read column.bytes.bytes.now column.kind column.count column.first column.rest.bytes.now column.are_bytes column.states).len in
    (λ h. none (values column) (e ∙ eqb-true column.count 0 h), λ h. eq-eqb column.count 0 (sym e ∙ ap length h))
