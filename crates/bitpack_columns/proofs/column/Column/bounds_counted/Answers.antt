-- The values of a sorted column are between the value before their block and its last.
use Rattle.std.proofs.Common.{◌≡◌, ◌+◌, ◌-◌, ◌*◌, ℕ, get_or, subst, sym, ap, ◌∙◌, arith, inl, inr}
use Rattle.std.proofs.lemmas.Bool.{cases_eq}
use Rattle.bitpack_columns.specs.declared.column_kind.ColumnKind.TheVariants.{Plain, Sorted}
use Rattle.bitpack_columns.specs.Columns.{block_of, mark_of}
use Rattle.bitpack_columns.specs.Opened.{values}
use Rattle.bitpack_columns.proofs.OpenedLaws.{in_order, some_values, value_of_block}
use Rattle.bitpack_columns.proofs.column.Column.bounds_counted.Goals as goal

pub returns-in-Sorted-clause-bounds : goal.returns-in-Sorted-clause-bounds
returns-in-Sorted-clause-bounds c =
    let column = c.args.self.now in
    let block : ℕ = c.args.block in
    let sorted = c.in-Sorted.is in
    let room = some_values column block c.requires in
    let mark : c.read_mark.result ≡ get_or (values column) (128 * block + 127) 0 =
    subst (λ kind. c.read_mark.result ≡ mark_of kind (block_of block (values column))) sorted c.read_mark.ensures.mark
    ∙ value_of_block (values column) block 127 (omega arith) in
    record {
      low = λ k lt. elim (cases_eq block 0) [
        | inl none ↦
            omega (arith, c.read_before.ensures.first none, in_order column sorted 0 (128 * block + k) (omega arith) (omega (arith, room, lt)))
        | inr some ↦
            omega (
              arith,
              c.read_before.ensures.later (omega (arith, some)),
              in_order column sorted (128 * block - 1) (128 * block + k) (omega arith) (omega (arith, room, lt)),
            )
      ];
      high = λ k lt. omega (arith, mark, in_order column sorted (128 * block + k) (128 * block + 127) (omega (arith, lt)) (omega (arith, room)));
      least_is = λ plain.
          let clash : Plain ≡ Sorted = sym plain ∙ sorted in
          absurd cc;
      greatest_is = λ plain.
          let clash : Plain ≡ Sorted = sym plain ∙ sorted in
          absurd cc;
      before_is = λ _. elim (cases_eq block 0) [
        | inl none ↦ c.read_before.ensures.first none ∙ ap (λ (m : ℕ). get_or (values column) (128 * m - 1) 0) (sym none)
        | inr some ↦ c.read_before.ensures.later (omega (arith, some))
      ];
      last_is = λ _. mark;
    }
