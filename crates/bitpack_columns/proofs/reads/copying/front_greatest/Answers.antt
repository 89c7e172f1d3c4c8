-- One mark more.
use Rattle.std.proofs.Common.{◌≡◌, ap, ◌∙◌, arith}
use Rattle.std.specs.Prelude.{max}
use Rattle.bitpack_columns.specs.Columns.{mark_in}
use Rattle.bitpack_columns.specs.Numbers.{greatest}
use Rattle.bitpack_columns.specs.Opened.{values}
use Rattle.bitpack_columns.proofs.MeasureLaws.{greatest_more}
use Rattle.bitpack_columns.proofs.OpenedLaws.{few_blocks}
use Rattle.bitpack_columns.proofs.reads.copying.front_greatest.Goals as goal

pub overflow_cast-blocks : goal.overflow_cast-blocks
overflow_cast-blocks c = record { fits = omega (arith, c.blocks-blocks.ensures, few_blocks c.args.column.now) }

pub loop-block-preserved : goal.loop-block-preserved
loop-block-preserved c =
    let column = c.args.column.now in
    let top : c.max-greatest.result ≡ max c.loop-block.greatest c.mark.result = omega (arith, c.max-greatest.ensures) in
    top ∙ ap (max c.loop-block.greatest) c.mark.ensures ∙ greatest_more (mark_in column.kind (values column)) c.loop-block.greatest c.loop-block.block c.loop-block.invariant

pub returns-clause-mark : goal.returns-clause-mark
returns-clause-mark c =
    let column = c.args.column.now in
    let end : c.loop-block.block ≡ c.blocks-blocks.result = omega arith in
    c.loop-block.invariant ∙ ap (greatest (mark_in column.kind (values column))) (end ∙ c.blocks-blocks.ensures)
