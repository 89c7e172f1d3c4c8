-- The chunks so far are described.
use Rattle.std.proofs.Common.{◌≡◌}
use Rattle.bitpack_sets.specs.Described.{Counts}
use Rattle.bitpack_sets.specs.inner.BodyForms.{first_chunks}
use Rattle.bitpack_sets.proofs.directory.Directory.describe.Given as goal

abbrev pub invariant-loop-chunk : goal.invariant-loop-chunk
invariant-loop-chunk l = record {
  ids : l.so_far.ids ≡ l.fn.none.ids;
  bytes : l.so_far.bytes ≡ l.fn.none.bytes;
  bodies : Counts l.so_far (first_chunks l.self.chunks l.self.rest.now l.chunk);
}
