-- The gaps of the ids that are left are still to be written.
use Rattle.std.proofs.Common.{◌+◌, drop, get_or}
use Rattle.bitpack_groups.proofs.ForCallers.{IsFilled}
use Rattle.bitpack_sets.proofs.encoding.few.copy_gaps.Given as goal
use Rattle.bitpack_sets.specs.Sets.{gaps}

abbrev pub invariant-loop-index : goal.invariant-loop-index
invariant-loop-index l = IsFilled l.out l.index (gaps (get_or l.ids l.index 0) (drop (l.index + 1) l.ids)) (gaps (get_or l.ids 0 0) (drop 1 l.ids))
