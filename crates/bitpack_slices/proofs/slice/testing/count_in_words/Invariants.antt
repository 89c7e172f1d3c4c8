-- The words so far are counted.
use Rattle.std.proofs.Common.{◌≡◌, ◌+◌, ◌*◌, ◌≤◌, drop}
use Rattle.bitpack_slices.proofs.slice.testing.count_in_words.Given as goal
use Rattle.bitpack_slices.specs.Slices.{bits_in}

abbrev pub invariant-loop-i : goal.invariant-loop-i
invariant-loop-i l = record {
  few : l.count ≤ 64 * l.i;
  counted : l.count + bits_in (drop (8 * l.i) l.bytes) ≡ bits_in l.bytes;
}
