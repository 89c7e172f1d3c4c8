-- The numbers of the slices before are passed.
use Rattle.std.proofs.Common.{◌≡◌, ◌+◌, ◌-◌, ◌<◌, length, take}
use Rattle.bitpack_slices.proofs.chunk.search.step_of.Given as goal
use Rattle.bitpack_slices.specs.Slices.{numbers_in}

abbrev pub invariant-loop-index : goal.invariant-loop-index
invariant-loop-index l = record {
  within : l.index < length l.counts;
  passed : numbers_in (take l.index l.counts) + l.left ≡ l.position;
}

abbrev pub decreases-loop-index : goal.decreases-loop-index
decreases-loop-index l = length l.counts - l.index
