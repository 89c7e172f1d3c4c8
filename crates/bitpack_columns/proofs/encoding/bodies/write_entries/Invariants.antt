-- The ends, the marks and the bodies of the blocks so far are written.
use Rattle.std.proofs.Common.{◌≡◌, length}
use Rattle.bitpack_columns.proofs.EntryLaws.{WrittenTo}
use Rattle.bitpack_columns.proofs.encoding.bodies.write_entries.Given as goal

abbrev pub invariant-loop-index : goal.invariant-loop-index
invariant-loop-index l = record {
  written : WrittenTo l.kind l.before l.values l.start l.end_size l.mark_size l.index l.at l.end l.last l.ends l.marks l.bodies;
  room_len : length l.room ≡ 128;
}
