-- The ends so far are written.
use Rattle.bitpack_columns.specs.Opened.{blocks_of, values}
use Rattle.bitpack_columns.proofs.EntryLaws.{end_encoding}
use Rattle.bitpack_columns.proofs.CopiedLaws.{CopiedTo, head_of}
use Rattle.bitpack_columns.proofs.reads.copying.copy_ends.Given as goal

abbrev pub invariant-loop-block : goal.invariant-loop-block
invariant-loop-block l = CopiedTo (end_encoding l.column.kind (head_of l.column) (values l.column) l.size 0) l.size (blocks_of l.column) l.block l.out
