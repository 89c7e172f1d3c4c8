-- No block has no width.
use Rattle.std.proofs.Common.{◌≡◌, ap, sym, ◌∙◌, arith}
use Rattle.bitpack_columns.specs.Columns.{sum_to}
use Rattle.bitpack_columns.specs.Measured.{width_after}
use Rattle.bitpack_columns.specs.Opened.{blocks_of, values}
use Rattle.bitpack_columns.proofs.CopiedLaws.{head_of}
use Rattle.bitpack_columns.proofs.SumLaws.{sum_none}
use Rattle.bitpack_columns.proofs.appending.planning.copied_total.Goals as goal

pub returns-then-blocks-eq0 : goal.returns-then-blocks-eq0
returns-then-blocks-eq0 c =
    let column = c.args.column.now in
    let none : 0 ≡ blocks_of column = omega arith in
    sym (sum_none (width_after column.kind (head_of column) (values column))) ∙ ap (sum_to (width_after column.kind (head_of column) (values column))) none
