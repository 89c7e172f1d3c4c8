-- The slices of the numbers that are left are still to be counted.
use Rattle.std.proofs.Common.{◌≡◌, ◌+◌, ◌-◌, ◌≤◌, drop, length}
use Rattle.bitpack_slices.specs.Bodies.{parts}
use Rattle.bitpack_slices.specs.Slices.{pairs_of}
use Rattle.bitpack_slices.proofs.chunk.testing.count_highs.Given as goal

abbrev pub invariant-loop-index : goal.invariant-loop-index
invariant-loop-index l = record {
  few : l.highs ≤ l.index;
  counted : l.highs + length (parts 256 (drop (l.index - 1) (pairs_of l.body))) ≡ length (parts 256 (pairs_of l.body)) + 1;
}
