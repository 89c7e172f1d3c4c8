-- The falls of the bytes that are left are still to be counted.
use Rattle.std.proofs.Common.{◌≡◌, ◌+◌, ◌-◌, ◌≤◌, drop, get_or}
use Rattle.bitpack_slices.specs.Falls.{falls}
use Rattle.bitpack_slices.proofs.slice.testing.count_falls.Given as goal

abbrev pub invariant-loop-i : goal.invariant-loop-i
invariant-loop-i l = record {
  few : l.count + 1 ≤ l.i;
  counted : l.count + falls (get_or l.window (l.i - 1) 0) (drop l.i l.window) ≡ falls (get_or l.window 0 0) (drop 1 l.window);
}
