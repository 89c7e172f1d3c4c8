-- The numbers so far are written.
use Rattle.std.proofs.Common.{◌≡◌, ◌+◌, ◌++◌, length, map, take}
use Rattle.bitpack_slices.proofs.chunk.reading.unpack_numbers.Given as goal
use Rattle.bitpack_slices.specs.Slices.{pairs_of}

abbrev pub invariant-loop-i : goal.invariant-loop-i
invariant-loop-i l = record {
  size : length l.out ≡ length l.fn.out;
  values : take (l.at + l.i) l.out ≡ take l.at l.fn.out ++ map (λ i. l.base + i) (take l.i (pairs_of l.body));
}
