-- The ids so far are written, and the next is that of a chunk. The places are not after it.
use Rattle.std.proofs.Common.{◌≡◌, ◌+◌, ◌-◌, ◌<◌, ◌≤◌, drop, length, take}
use Rattle.bitpack_sets.proofs.lemmas.reads.RangeLaws.{AtChunk}
use Rattle.bitpack_sets.proofs.directory.Directory.unpack_at.Given as goal
use Rattle.bitpack_sets.specs.Directory.{chunk_ids}
use Rattle.bitpack_sets.specs.Places.{Holds, IsChunkPlace}
use Rattle.bitpack_slices.specs.Places.{before_of}

abbrev pub invariant-loop-next : goal.invariant-loop-next
invariant-loop-next l = record {
  long : length l.out ≡ length l.fn.out;
  within : l.next ≤ length l.out;
  at : l.next < length l.out → AtChunk l.self.chunks l.self.rest.now l.start.chunk l.left (l.from + l.next);
  start : l.next < length l.out → IsChunkPlace l.self.chunks l.self.rest.now l.start;
  first : before_of l.start.place ≤ l.left;
  here : Holds l.self.chunks l.self.rest.now l.here (l.from + l.next);
  values : take l.next l.out ≡ take l.next (drop l.from (chunk_ids l.self.chunks l.self.rest.now));
}

abbrev pub decreases-loop-next : goal.decreases-loop-next
decreases-loop-next l = length l.out - l.next
