-- The values at the positions so far were written, the block that was unpacked last has its values, and at most one a run was unpacked.
use Rattle.std.proofs.Common.{◌≡◌, ◌<◌, ℕ, length, drop, get_or}
use Rattle.bitpack_columns.specs.Gathering.{HasValues}
use Rattle.bitpack_columns.specs.Opened.{values}
use Rattle.bitpack_columns.proofs.RunLaws.{AreRead}
use Rattle.bitpack_columns.proofs.column.Column.gather_all.Given as goal

abbrev pub invariant-loop-index : goal.invariant-loop-index
invariant-loop-index l = record {
  last : HasValues (values l.self) l.last;
  long : length l.out ≡ length l.fn.out;
  written : (k : ℕ) → k < l.index → get_or l.out k 0 ≡ get_or (values l.self) (get_or l.positions k 0) 0;
  read : AreRead l.positions l.index l.initial.reads.blocks l.last.block l.reads.blocks;
  rest : drop (length l.positions) l.out ≡ drop (length l.positions) l.fn.out;
}
