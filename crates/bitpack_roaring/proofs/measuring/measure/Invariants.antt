-- The chunks so far are measured.
use Rattle.std.proofs.Common.{◌-◌, ◌*◌, ◌≤◌, length}
use Rattle.bitpack_sets.specs.Chunks.{ids_from, positions}
use Rattle.bitpack_sets.specs.Opened.{ids}
use Rattle.bitpack_slices.specs.Bodies.{parts}
use Rattle.bitpack_roaring.proofs.MeasureSteps.{Measures}
use Rattle.bitpack_roaring.specs.inner.Walks.{IsAt}
use Rattle.bitpack_roaring.proofs.measuring.measure.Given as goal

abbrev pub invariant-loop-position : goal.invariant-loop-position
invariant-loop-position l = record {
  at : IsAt (ids l.set) l.chunks l.position l.from;
  so : Measures (parts 65536 (ids l.set)) (parts 65536 (ids_from l.chunks l.position)) l.measured.containers l.measured.size l.measured.runs l.flags;
  small : l.measured.size ≤ 8192 * l.measured.containers;
  most : length (parts 65536 (ids l.set)) ≤ 65536;
}

abbrev pub decreases-loop-position : goal.decreases-loop-position
decreases-loop-position l = positions l.chunks - l.position
