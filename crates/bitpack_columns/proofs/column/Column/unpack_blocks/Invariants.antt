-- The blocks so far were written, and the next begins where the last ends.
use Rattle.std.proofs.Common.{◌≡◌, ◌+◌, ◌*◌, take, drop}
use Rattle.bitpack_columns.specs.declared.column_kind.ColumnKind.TheVariants.{Sorted}
use Rattle.bitpack_columns.specs.Columns.{base_of}
use Rattle.bitpack_columns.specs.Opened.{blocks_of, values}
use Rattle.bitpack_columns.specs.Reads.{begin_at, mark_at}
use Rattle.bitpack_columns.proofs.column.Column.unpack_blocks.Given as goal

abbrev pub invariant-loop-index : goal.invariant-loop-index
invariant-loop-index l = record {
  begin_is : l.begin ≡ begin_at l.self.rest.bytes.now (l.start + l.index);
  before_is : l.self.kind ≡ Sorted → l.before ≡ base_of Sorted l.self.first (mark_at (blocks_of l.self) l.self.rest.bytes.now) (l.start + l.index);
  written : take (128 * l.index) l.out ≡ take (128 * l.index) (drop (128 * l.start) (values l.self));
}
