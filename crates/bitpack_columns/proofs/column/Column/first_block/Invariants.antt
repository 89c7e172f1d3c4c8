-- The block is one of those that are left, or the one after them.
use Rattle.std.proofs.Common.{◌≡◌, ◌+◌, ◌^◌, ◌<◌, ◌≤◌, ℕ}
use Rattle.bitpack_columns.specs.declared.column_kind.ColumnKind.TheVariants.{Sorted}
use Rattle.bitpack_columns.specs.Columns.{block_of, mark_of}
use Rattle.bitpack_columns.specs.Opened.{blocks_of, values}
use Rattle.bitpack_columns.proofs.column.Column.first_block.Given as goal

abbrev pub invariant-loop-left : goal.invariant-loop-left
invariant-loop-left l = record {
  within : l.first + l.left ≤ blocks_of l.self;
  before : (block : ℕ) → block < l.first → mark_of Sorted (block_of block (values l.self)) < l.target;
  enough : l.first + l.left < blocks_of l.self → l.target ≤ mark_of Sorted (block_of (l.first + l.left) (values l.self));
  halves : (digits : ℕ) → blocks_of l.self < 2 ^ digits
      → (fewer : ℕ) × (l.left < 2 ^ fewer) × (l.reads.marks + fewer ≤ l.initial.reads.marks + digits);
  blocks : l.reads.blocks ≡ l.initial.reads.blocks;
}

abbrev pub decreases-loop-left : goal.decreases-loop-left
decreases-loop-left l = l.left
