-- The numbers so far are counted.
use Rattle.std.proofs.Common.{◌≡◌, ◌+◌, ◌*◌, ◌≤◌, drop}
use Rattle.bitpack_slices.proofs.slice.testing.count_numbers.Given as goal
use Rattle.bitpack_slices.specs.Slices.{numbers_in}

abbrev pub invariant-loop-less : goal.invariant-loop-less
invariant-loop-less l = record {
  few : l.count ≤ 256 * l.less-index;
  counted : l.count + numbers_in (drop l.less-index l.counts) ≡ numbers_in l.counts;
}
