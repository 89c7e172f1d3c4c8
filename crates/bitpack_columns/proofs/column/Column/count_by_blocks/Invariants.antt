-- The values of the blocks so far were counted, and only the untold ones were unpacked.
use Rattle.std.proofs.Common.{◌≡◌, ◌-◌, length}
use Rattle.bitpack_columns.specs.Counted.{UnpacksUntold}
use Rattle.bitpack_columns.specs.Opened.{values}
use Rattle.bitpack_columns.specs.Searches.{positions_in_range}
use Rattle.bitpack_columns.proofs.WithinLaws.{upto}
use Rattle.bitpack_columns.proofs.column.Column.count_by_blocks.Given as goal

abbrev pub invariant-loop-block : goal.invariant-loop-block
invariant-loop-block l = record {
  count : l.count ≡ length (positions_in_range l.low l.high 0 (upto l.low l.high (values l.self) l.block) (values l.self));
  reads : UnpacksUntold l.self l.low l.high 0 (l.block - 0) l.initial.reads l.reads;
}
