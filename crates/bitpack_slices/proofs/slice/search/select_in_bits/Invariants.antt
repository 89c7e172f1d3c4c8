-- The bits of the words before are passed.
use Rattle.std.proofs.Common.{◌≡◌, ◌+◌, ◌-◌, ◌<◌, length}
use Rattle.bitpack_slices.proofs.lemmas.numbers.SelectLaws.{ones_before}
use Rattle.bitpack_slices.proofs.slice.search.select_in_bits.Given as goal

abbrev pub invariant-loop-left : goal.invariant-loop-left
invariant-loop-left l = record {
  within : l.index < 4;
  passed : length (ones_before l.bytes l.index) + l.left ≡ l.position;
}

abbrev pub decreases-loop-left : goal.decreases-loop-left
decreases-loop-left l = 4 - l.index
