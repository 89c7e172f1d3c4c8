-- The id is not among those so far.
use Rattle.std.proofs.Common.{◌≡◌, drop}
use Rattle.bitpack_sets.proofs.few.is_member.Given as goal
use Rattle.bitpack_slices.specs.Reads.{has}

abbrev pub invariant-loop-other : goal.invariant-loop-other
invariant-loop-other l = has l.id l.ids ≡ has l.id (drop l.other-index l.ids)
