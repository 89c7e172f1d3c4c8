-- The numbers and the bytes so far are counted.
use Rattle.std.proofs.Common.{◌≡◌, ◌+◌, ◌*◌, ◌≤◌, drop, take}
use Rattle.bitpack_slices.proofs.chunk.place.sums_of.Given as goal
use Rattle.bitpack_slices.specs.Slices.{numbers_in, slices_len}

abbrev pub invariant-loop-less : goal.invariant-loop-less
invariant-loop-less l = record {
  few : l.numbers ≤ 256 * l.less-index;
  small : l.bytes ≤ 32 * l.less-index;
  counted : l.numbers + numbers_in (drop l.less-index l.counts) ≡ numbers_in l.counts;
  passed : l.bytes ≡ slices_len (take l.less-index l.counts);
}
