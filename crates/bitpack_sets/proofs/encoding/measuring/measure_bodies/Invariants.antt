-- The chunks of what is left are still to be measured.
use Rattle.std.proofs.Common.{length}
use Rattle.bitpack_sets.proofs.lemmas.written.MeasureLaws.{ChunksLeft}
use Rattle.bitpack_sets.proofs.encoding.measuring.measure_bodies.Given as goal

abbrev pub invariant-loop-left : goal.invariant-loop-left
invariant-loop-left l = ChunksLeft l.ids l.left l.bodies

abbrev pub decreases-loop-left : goal.decreases-loop-left
decreases-loop-left l = length l.left
