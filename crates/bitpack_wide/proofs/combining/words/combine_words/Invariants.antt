-- What is written, and what comes from the words i and j on, is all that the operation gives.
use Rattle.std.proofs.Common.{◌≡◌, ◌-◌, ◌+◌, ◌*◌, ◌^◌, ◌≤◌, length}
use Rattle.bitpack_slices.proofs.ForCallers.{IsLeft}
use Rattle.bitpack_wide.proofs.combining.words.combine_words.Given as goal
use Rattle.bitpack_wide.specs.Combined.{answer}
use Rattle.bitpack_wide.specs.Forms.{directory_ids}
use Rattle.bitpack_wide.specs.inner.Merging.{left_of}

abbrev pub invariant-loop-i : goal.invariant-loop-i
invariant-loop-i l = record {
  first : l.i ≤ l.a.words;
  second : l.j ≤ l.b.words;
  within : l.at ≤ l.most;
  few : l.at ≤ (l.i + l.j) * 2 ^ 32;
  size : length l.out ≡ length l.fn.out;
  room : length l.space ≡ length l.fn.space;
  left : IsLeft (answer l.operation (directory_ids l.a) (directory_ids l.b)) l.fn.out l.out 0 l.at (answer l.operation (left_of l.a l.i) (left_of l.b l.j));
}

abbrev pub decreases-loop-i : goal.decreases-loop-i
decreases-loop-i l = (l.a.words + l.b.words) - (l.i + l.j)
