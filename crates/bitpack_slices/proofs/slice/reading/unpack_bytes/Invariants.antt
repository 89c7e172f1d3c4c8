-- The bytes so far are written.
use Rattle.std.proofs.Common.{◌≡◌, ◌+◌, length, map, take}
use Rattle.bitpack_slices.proofs.slice.reading.unpack_bytes.Given as goal

abbrev pub invariant-loop-i : goal.invariant-loop-i
invariant-loop-i l = record {
  size : length l.positions ≡ length l.bytes;
  values : take l.i l.positions ≡ map (λ i. l.base + i) (take l.i l.bytes);
}
