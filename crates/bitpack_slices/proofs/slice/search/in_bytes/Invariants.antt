-- The byte is not among those so far.
use Rattle.std.proofs.Common.{◌≡◌, drop}
use Rattle.bitpack_slices.proofs.slice.search.in_bytes.Given as goal
use Rattle.bitpack_slices.specs.Reads.{has}

abbrev pub invariant-loop-byte : goal.invariant-loop-byte
invariant-loop-byte l = has l.number l.bytes ≡ has l.number (drop l.byte-index l.bytes)
