-- The ids that follow each other are at least `front`, and at most `left` more.
use Rattle.std.proofs.Common.{◌≡◌, ◌+◌, ◌≤◌, ◌<◌, false, true}
use Rattle.bitpack_slices.specs.Reads.{has}
use Rattle.bitpack_sets.specs.Opened.{ids}
use Rattle.bitpack_wide.specs.WideColumnFaults.{is_front}
use Rattle.bitpack_wide.proofs.wide_column.filling.count_front.Given as goal

abbrev pub invariant-loop-left : goal.invariant-loop-left
invariant-loop-left l = record {
  within : l.front + l.left ≤ l.most;
  front : is_front (λ k. has (l.begin + k) (ids l.missing)) l.front ≡ true;
  after : l.front + l.left < l.most → is_front (λ k. has (l.begin + k) (ids l.missing)) (l.front + l.left + 1) ≡ false;
}

abbrev pub decreases-loop-left : goal.decreases-loop-left
decreases-loop-left l = l.left
