-- The ids so far are written.
use Rattle.std.proofs.Common.{◌≡◌, ◌≤◌, length, take}
use Rattle.bitpack_roaring.specs.Roaring.{ids_before, position_at, start_at}
use Rattle.bitpack_roaring.proofs.unpacking.unpack.Given as goal

abbrev pub invariant-loop-container : goal.invariant-loop-container
invariant-loop-container l = record {
  long : length l.out ≡ length l.fn.out;
  start : l.start ≡ start_at l.head.bytes.now l.container;
  room : l.start ≤ length l.head.bytes.now;
  next : l.next ≡ position_at l.head.bytes.now l.container;
  values : take l.next l.out ≡ ids_before l.head.bytes.now l.container;
}
