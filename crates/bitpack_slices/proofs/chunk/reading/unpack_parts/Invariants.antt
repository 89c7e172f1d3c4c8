-- The numbers of the slices that are left are still to be written.
use Rattle.std.proofs.Common.{◌≡◌, ◌+◌, ◌≤◌, ◌++◌, length, map, take, drop}
use Rattle.bitpack_slices.proofs.chunk.reading.unpack_parts.Given as goal
use Rattle.bitpack_slices.specs.Slices.{AreSlices, numbers_in, numbers_of, slice_numbers, slices_len}

abbrev pub invariant-loop-i : goal.invariant-loop-i
invariant-loop-i l = record {
  few : l.next + numbers_in (drop l.i l.counts) ≡ l.at + numbers_in l.counts;
  long : length l.out ≡ length l.fn.out;
  within : l.offset ≤ length (take (slices_len l.counts) l.rest);
  are : AreSlices (drop l.i l.counts) (drop l.offset (take (slices_len l.counts) l.rest));
  values : take l.next l.out ++ map (λ i. l.base + i) (numbers_of (drop l.i (slice_numbers (length l.counts) l.highs)) (drop l.i l.counts) (drop l.offset (take (slices_len l.counts) l.rest)))
      ≡ take l.at l.fn.out ++ map (λ i. l.base + i) (numbers_of (slice_numbers (length l.counts) l.highs) l.counts (take (slices_len l.counts) l.rest));
}
