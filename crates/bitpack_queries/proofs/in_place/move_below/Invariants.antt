use Rattle.std.proofs.Common.{◌+◌, ◌-◌, length}
use Rattle.bitpack_queries.proofs.lemmas.two.RetainedLaws.{IsMoved}
use Rattle.bitpack_queries.proofs.in_place.move_below.Given as goal

abbrev pub invariant-loop-moved : goal.invariant-loop-moved
invariant-loop-moved l = IsMoved l.id l.written l.from l.initial.values l.values l.moved

abbrev pub decreases-loop-moved : goal.decreases-loop-moved
decreases-loop-moved l = length l.values - (l.from + l.moved)
