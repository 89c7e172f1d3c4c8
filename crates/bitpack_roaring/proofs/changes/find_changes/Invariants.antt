-- The words so far have the bits of the changes.
use Rattle.std.proofs.Common.{◌≡◌, ◌<◌, ◌≤◌, ℕ, get_or, length}
use Rattle.bitpack_slices.proofs.ForCallers.{IsWordOf, changes}
use Rattle.bitpack_slices.specs.Bitmaps.{has_bit}
use Rattle.bitpack_roaring.proofs.changes.find_changes.Given as goal

abbrev pub invariant-loop-index : goal.invariant-loop-index
invariant-loop-index l = record {
  some : 1 ≤ l.index;
  long : length l.found ≡ 1024;
  are : (q : ℕ) → q < l.index → IsWordOf (changes (has_bit l.words)) q (get_or l.found q 0);
}
