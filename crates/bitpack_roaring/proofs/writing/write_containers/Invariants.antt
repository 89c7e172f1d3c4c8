-- The chunks so far are written.
use Rattle.std.proofs.Common.{◌≡◌, ◌-◌, ◌≤◌, length}
use Rattle.bitpack_sets.specs.Chunks.{ids_from, positions}
use Rattle.bitpack_sets.specs.Opened.{ids}
use Rattle.bitpack_slices.specs.Bodies.{parts}
use Rattle.bitpack_roaring.proofs.WriteSteps.{Writes}
use Rattle.bitpack_roaring.specs.inner.Walks.{IsAt}
use Rattle.bitpack_roaring.proofs.writing.write_containers.Given as goal

abbrev pub invariant-loop-position : goal.invariant-loop-position
invariant-loop-position l = record {
  at : IsAt (ids l.set) l.chunks l.position l.from;
  so : Writes (parts 65536 (ids l.set)) (parts 65536 (ids_from l.chunks l.position)) l.start l.container l.at l.offsets l.flags l.entries l.starts l.bodies;
  most : length (parts 65536 (ids l.set)) ≤ 65536;
  entries_len : length l.entries ≡ length l.fn.entries;
  starts_len : length l.starts ≡ length l.fn.starts;
  bodies_len : length l.bodies ≡ length l.fn.bodies;
}

abbrev pub decreases-loop-position : goal.decreases-loop-position
decreases-loop-position l = positions l.chunks - l.position
