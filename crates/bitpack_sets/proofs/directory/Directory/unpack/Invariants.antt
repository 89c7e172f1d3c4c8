-- The ids of the chunks that are left are still to be written.
use Rattle.std.proofs.Common.{◌≡◌, ◌-◌, ◌++◌, length, map, take}
use Rattle.std.specs.List.{range_with_len}
use Rattle.bitpack_sets.specs.Directory.{before, chunk_at, chunk_ids, ids_of_chunks, sum_at}
use Rattle.bitpack_sets.proofs.directory.Directory.unpack.Given as goal

abbrev pub invariant-loop-chunk : goal.invariant-loop-chunk
invariant-loop-chunk l = record {
  long : length l.out ≡ length l.fn.out;
  next : l.next ≡ before (sum_at l.self.chunks l.self.rest.now) l.chunk;
  values : take l.next l.out ++ ids_of_chunks (map (chunk_at l.self.chunks l.self.rest.now) (range_with_len l.chunk (l.self.chunks - l.chunk))) ≡ chunk_ids l.self.chunks l.self.rest.now;
}
