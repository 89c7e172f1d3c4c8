-- The bytes of the ids that are left are still to be written.
use Rattle.std.proofs.Common.{◌%◌, drop, map}
use Rattle.bitpack_groups.proofs.ForCallers.{IsFilled}
use Rattle.bitpack_slices.proofs.slice.writing.copy_lows.Given as goal

abbrev pub invariant-loop-index : goal.invariant-loop-index
invariant-loop-index l = IsFilled l.out l.index (map (λ id. id % 256) (drop l.index l.ids)) (map (λ id. id % 256) l.ids)
