-- The bytes of the numbers that are left are still to be written.
use Rattle.std.proofs.Common.{◌*◌, drop}
use Rattle.std.specs.List.{flat_map}
use Rattle.bitpack_groups.proofs.ForCallers.{IsFilled}
use Rattle.bitpack_slices.proofs.integers.write_integers.Given as goal
use Rattle.bitpack_slices.specs.Bodies.{le_bytes}

abbrev pub invariant-loop-index : goal.invariant-loop-index
invariant-loop-index l = IsFilled l.out (l.size * l.index) (flat_map (le_bytes l.size) (drop l.index l.values)) (flat_map (le_bytes l.size) l.values)
