-- Without a block nothing is copied.
use Rattle.std.proofs.Common.{◌≡◌, ◌*◌, ℕ, sym, ap, ◌∙◌, arith}
use Rattle.std.proofs.lemmas.List.{nil_from_length}
use Rattle.bitpack_columns.specs.Columns.{sum_to}
use Rattle.bitpack_columns.specs.Measured.{width_after}
use Rattle.bitpack_columns.specs.Opened.{blocks_of, values}
use Rattle.bitpack_columns.proofs.CopiedLaws.{bodies_none, ends_none, head_of, marks_none}
use Rattle.bitpack_columns.proofs.SumLaws.{sum_none}
use Rattle.bitpack_columns.proofs.appending.writing.copy_old.Goals as goal

pub returns-else-blocks-gt0-clause-ends : goal.returns-else-blocks-gt0-clause-ends
returns-else-blocks-gt0-clause-ends c =
    let column = c.args.column.now in
    let none : blocks_of column ≡ 0 = omega arith in
    let zero : c.args.end_size * 0 ≡ 0 = omega arith in
    nil_from_length c.args.ends.now (c.requires.ends ∙ ap (λ (n : ℕ). c.args.end_size * n) none ∙ zero)
    ∙ sym (ends_none column.kind (head_of column) (values column) none c.args.end_size)

pub returns-else-blocks-gt0-clause-marks : goal.returns-else-blocks-gt0-clause-marks
returns-else-blocks-gt0-clause-marks c =
    let column = c.args.column.now in
    let none : blocks_of column ≡ 0 = omega arith in
    let zero : c.args.mark_size * 0 ≡ 0 = omega arith in
    nil_from_length c.args.marks.now (c.requires.marks ∙ ap (λ (n : ℕ). c.args.mark_size * n) none ∙ zero)
    ∙ sym (marks_none column.kind (head_of column) (values column) none c.args.mark_size)

pub returns-else-blocks-gt0-clause-bodies : goal.returns-else-blocks-gt0-clause-bodies
returns-else-blocks-gt0-clause-bodies c =
    let column = c.args.column.now in
    let none : blocks_of column ≡ 0 = omega arith in
    let widths : ℕ → ℕ = width_after column.kind (head_of column) (values column) in
    nil_from_length c.args.bodies.now (c.requires.bodies ∙ ap (λ (n : ℕ). 16 * sum_to widths n) none ∙ ap (λ (n : ℕ). 16 * n) (sum_none widths))
    ∙ sym (bodies_none column.kind (head_of column) (values column) none)
