-- The positions before the block are written, as many as fit, and only untold blocks were unpacked.
use Rattle.std.proofs.Common.{◌-◌, ◌/◌}
use Rattle.bitpack_columns.specs.Counted.{UnpacksUntold}
use Rattle.bitpack_columns.specs.Opened.{values}
use Rattle.bitpack_columns.proofs.WithinLaws.{IsFound}
use Rattle.bitpack_columns.proofs.column.Column.find_by_blocks.Given as goal

abbrev pub invariant-loop-block : goal.invariant-loop-block
invariant-loop-block l = record {
  found : IsFound l.low l.high (values l.self) l.from l.block l.done l.fn.out l.out;
  reads : UnpacksUntold l.self l.low l.high (l.from / 128) (l.block - l.from / 128) l.initial.reads l.reads;
}
