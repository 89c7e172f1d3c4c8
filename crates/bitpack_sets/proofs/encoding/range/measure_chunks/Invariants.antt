-- Some of the ids are measured.
use Rattle.std.proofs.Common.{◌-◌}
use Rattle.bitpack_sets.proofs.lemmas.written.RangeFilled.{IdsLeft}
use Rattle.bitpack_sets.proofs.encoding.range.measure_chunks.Given as goal

abbrev pub invariant-loop-done : goal.invariant-loop-done
invariant-loop-done l = IdsLeft l.first l.count l.done l.chunks l.bodies

abbrev pub decreases-loop-done : goal.decreases-loop-done
decreases-loop-done l = l.count - l.done
