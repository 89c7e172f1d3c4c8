-- The bytes so far are counted.
use Rattle.std.proofs.Common.{◌≡◌, ◌+◌, ◌≤◌, drop}
use Rattle.bitpack_slices.proofs.slice.search.rank_in_bytes.Given as goal
use Rattle.bitpack_slices.specs.Reads.{rank}

abbrev pub invariant-loop-byte : goal.invariant-loop-byte
invariant-loop-byte l = record {
  few : l.count ≤ l.byte-index;
  counted : l.count + rank l.number (drop l.byte-index l.bytes) ≡ rank l.number l.bytes;
}
