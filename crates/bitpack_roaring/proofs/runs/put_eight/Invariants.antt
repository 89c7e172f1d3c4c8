-- The numbers so far are written.
use Rattle.std.proofs.Common.{◌≡◌, ◌+◌, ◌^◌, ◌≤◌, ℕ, length, take}
use Rattle.std.specs.List.{range_with_len}
use Rattle.bitpack_roaring.proofs.runs.put_eight.Given as goal

abbrev pub invariant-loop-i : goal.invariant-loop-i
invariant-loop-i l = record {
  long : length l.out ≡ 8;
  written : (n : ℕ) → n ≤ l.i → l.first + n ≤ 2 ^ 32 → take n l.out ≡ range_with_len l.first n;
}
