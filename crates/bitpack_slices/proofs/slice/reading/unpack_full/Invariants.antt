-- The numbers so far are written.
use Rattle.std.proofs.Common.{◌≡◌, ◌+◌, ◌++◌, length, map, take}
use Rattle.std.specs.List.{range_with_len}
use Rattle.bitpack_slices.proofs.slice.reading.unpack_full.Given as goal

abbrev pub invariant-loop-i : goal.invariant-loop-i
invariant-loop-i l = record {
  size : length l.out ≡ length l.fn.out;
  values : take (l.at + l.i) l.out ≡ take l.at l.fn.out ++ map (λ i. l.base + i) (take l.i (range_with_len 0 256));
}
