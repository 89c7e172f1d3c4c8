-- The numbers of the bytes so far are written.
use Rattle.std.proofs.Common.{◌≡◌, ◌+◌, ◌*◌, ◌%◌, ◌^◌, length, map, replicate, take}
use Rattle.bitpack_slices.proofs.slice.positions.unpack_window.Given as goal
use Rattle.bitpack_slices.specs.Slices.{ones_from}

abbrev pub invariant-loop-i : goal.invariant-loop-i
invariant-loop-i l = record {
  room : length l.window ≡ 64;
  lanes : l.lanes ≡ replicate 8 ((l.base + 8 * l.i) % 2 ^ 32);
  count : l.next ≡ length (ones_from l.word 0 (8 * l.i));
  values : take l.next l.window ≡ map (λ i. l.base + i) (ones_from l.word 0 (8 * l.i));
}
