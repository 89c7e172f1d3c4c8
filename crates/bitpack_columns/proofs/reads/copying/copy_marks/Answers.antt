-- One block more.
use Rattle.std.proofs.Common.{◌≡◌, ap, ◌∙◌, arith}
use Rattle.bitpack_groups.specs.Packed.{le_bytes}
use Rattle.bitpack_columns.specs.Measured.{marks_encoding}
use Rattle.bitpack_columns.specs.Opened.{blocks_of, values}
use Rattle.bitpack_columns.proofs.EntryLaws.{mark_encoding}
use Rattle.bitpack_columns.proofs.CopiedLaws.{copied_done, copied_more, copied_start, head_of}
use Rattle.bitpack_columns.proofs.reads.copying.copy_marks.Goals as goal

pub loop-block-init : goal.loop-block-init
loop-block-init c =
    let column = c.args.column.now in
    copied_start (mark_encoding column.kind (head_of column) (values column) c.args.size) c.args.size (blocks_of column) c.args.out.now c.requires.room

pub loop-block-preserved : goal.loop-block-preserved
loop-block-preserved c =
    let column = c.args.column.now in
    copied_more (mark_encoding column.kind (head_of column) (values column) c.args.size) c.args.size (blocks_of column) c.loop-block.block c.loop-block.out c.write_at.new.out _ c.loop-block.invariant
    c.write_at.ensures.len c.write_at.ensures.bytes (ap (le_bytes c.args.size) c.mark.ensures)

pub returns : goal.returns
unfolding marks_encoding
returns c =
    let column = c.args.column.now in
    let end : c.loop-block.block ≡ c.blocks-block-end.result = omega arith in
    copied_done (mark_encoding column.kind (head_of column) (values column) c.args.size) c.args.size (blocks_of column) c.loop-block.block c.loop-block.out c.loop-block.invariant (end ∙ c.blocks-block-end.ensures)
