-- The numbers of the bits that are no longer left are written.
use Rattle.std.proofs.Common.{◌-◌, ◌≤◌, length}
use Rattle.bitpack_slices.proofs.lemmas.bits.FourLaws.{AreOut, AreWritten}
use Rattle.bitpack_slices.proofs.bitmap.writing.put_four.Given as goal
use Rattle.bitpack_slices.specs.Slices.{ones_from}

abbrev pub invariant-loop-i : goal.invariant-loop-i
invariant-loop-i l = AreWritten l.base l.i l.left l.four (ones_from l.initial.left 0 64)

abbrev pub invariant-loop-left : goal.invariant-loop-left
invariant-loop-left l = record {
  start : l.at ≤ l.next;
  written : AreOut l.base l.at (l.next - l.at) l.left l.fn.out l.out (ones_from l.word 0 64);
}

abbrev pub decreases-loop-left : goal.decreases-loop-left
decreases-loop-left l = length (ones_from l.left 0 64)
