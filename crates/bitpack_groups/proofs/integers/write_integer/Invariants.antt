-- The bytes of what is left are still to be written.
use Rattle.std.proofs.Common.{◌-◌, length}
use Rattle.bitpack_groups.proofs.FillLaws.{IsFilled}
use Rattle.bitpack_groups.proofs.integers.write_integer.Given as goal
use Rattle.bitpack_groups.specs.Packed.{le_bytes}

abbrev pub invariant-loop-index : goal.invariant-loop-index
invariant-loop-index l = IsFilled l.out l.index (le_bytes (length l.fn.out - l.index) l.left) (le_bytes (length l.fn.out) l.value)
