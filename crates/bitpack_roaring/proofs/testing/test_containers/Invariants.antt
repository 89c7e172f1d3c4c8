-- No container before has a fault.
use Rattle.std.proofs.Common.{◌≡◌, ◌*◌, ◌≤◌, None, length}
use Rattle.bitpack_roaring.specs.Faults.{container_fault, first_of}
use Rattle.bitpack_roaring.specs.Roaring.{position_at, start_at}
use Rattle.bitpack_roaring.proofs.testing.test_containers.Given as goal

abbrev pub invariant-loop-container : goal.invariant-loop-container
invariant-loop-container l = record {
  none : first_of (container_fault l.head.bytes.now) l.container ≡ None;
  start : l.start ≡ start_at l.head.bytes.now l.container;
  room : l.start ≤ length l.head.bytes.now;
  position : l.position ≡ position_at l.head.bytes.now l.container;
  few : l.position ≤ 65536 * l.container;
}
