-- A value of a plain column is at least the mark, and at most what the width allows above it.
use Rattle.std.proofs.Common.{◌≡◌, ◌^◌, ℕ, ap, subst, arith}
use Rattle.bitpack_columns.specs.declared.column_kind.ColumnKind.TheVariants.{Plain, Sorted}
use Rattle.bitpack_columns.specs.Columns.{block_of, least, mark_of, width_in}
use Rattle.bitpack_columns.specs.Opened.{values}
use Rattle.bitpack_columns.proofs.BoundLaws.{least_of_block, value_small}
use Rattle.bitpack_columns.proofs.column.Column.plain_bounds.Goals as goal

pub returns-clause-bounds : goal.returns-clause-bounds
returns-clause-bounds c =
    let column = c.args.self.now in
    let plain = c.requires.plain in
    let mark : c.read_mark-mark.result ≡ least (block_of c.args.block (values column)) =
    subst (λ kind. c.read_mark-mark.result ≡ mark_of kind (block_of c.args.block (values column))) plain c.read_mark-mark.ensures.mark in
    let wide = subst (λ kind. c.read_width.result ≡ width_in kind (values column) c.args.block) plain c.read_width.ensures.is in
    record {
      low = λ k lt. omega (arith, mark, least_of_block column c.args.block c.requires.block k lt);
      high = λ k lt.
          omega (
            arith,
            mark,
            c.read_width.ensures.fits plain k lt,
            value_small column c.args.block c.requires.block k lt,
            c.greatest_code-most.ensures,
            c.saturating_add.ensures,
          );
      least_is = λ _. mark;
      greatest_is = λ _. omega (arith, ap (λ (w : ℕ). 2 ^ w) wide, c.greatest_code-most.ensures, c.saturating_add.ensures);
      before_is = λ sorted.
          let clash : Plain ≡ Sorted = sorted in
          absurd cc;
      last_is = λ sorted.
          let clash : Plain ≡ Sorted = sorted in
          absurd cc;
    }

pub returns-clause-greatest : goal.returns-clause-greatest
returns-clause-greatest c =
    let plain = c.requires.plain in
    let mark = subst (λ kind. c.read_mark-mark.result ≡ mark_of kind (block_of c.args.block (values c.args.self.now))) plain c.read_mark-mark.ensures.mark in
    let wide = subst (λ kind. c.read_width.result ≡ width_in kind (values c.args.self.now) c.args.block) plain c.read_width.ensures.is in
    omega (arith, mark, ap (λ (w : ℕ). 2 ^ w) wide, c.greatest_code-most.ensures, c.saturating_add.ensures)
