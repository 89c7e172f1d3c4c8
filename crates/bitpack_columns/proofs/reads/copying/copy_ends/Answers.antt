-- One block more.
use Rattle.std.proofs.Common.{◌≡◌, ℕ, ap, ◌∙◌, arith}
use Rattle.bitpack_groups.specs.Packed.{le_bytes}
use Rattle.bitpack_columns.specs.Measured.{ends_encoding}
use Rattle.bitpack_columns.specs.Opened.{blocks_of, values}
use Rattle.bitpack_columns.proofs.EntryLaws.{end_encoding}
use Rattle.bitpack_columns.proofs.CopiedLaws.{copied_done, copied_end, copied_more, copied_start, head_of}
use Rattle.bitpack_columns.proofs.OpenedLaws.{entries}
use Rattle.bitpack_columns.proofs.reads.copying.copy_ends.Goals as goal

pub loop-block-init : goal.loop-block-init
loop-block-init c =
    let column = c.args.column.now in
    copied_start (end_encoding column.kind (head_of column) (values column) c.args.size 0) c.args.size (blocks_of column) c.args.out.now c.requires.room

pub end_at-requires-clause-entries : goal.end_at-requires-clause-entries
end_at-requires-clause-entries c = rw c.blocks-blocks.ensures (entries c.args.column.now 0 c.requires.some)

pub loop-block-preserved : goal.loop-block-preserved
loop-block-preserved c =
    let column = c.args.column.now in
    copied_more (end_encoding column.kind (head_of column) (values column) c.args.size 0) c.args.size (blocks_of column) c.loop-block.block c.loop-block.out c.write_at.new.out _ c.loop-block.invariant
    c.write_at.ensures.len c.write_at.ensures.bytes (ap (λ (n : ℕ). le_bytes c.args.size n) c.end_at.ensures ∙ copied_end column c.requires.some c.args.size c.loop-block.block (omega arith))

pub returns : goal.returns
unfolding ends_encoding
returns c =
    let column = c.args.column.now in
    let end : c.loop-block.block ≡ c.blocks-blocks.result = omega arith in
    copied_done (end_encoding column.kind (head_of column) (values column) c.args.size 0) c.args.size (blocks_of column) c.loop-block.block c.loop-block.out c.loop-block.invariant (end ∙ c.blocks-blocks.ensures)
