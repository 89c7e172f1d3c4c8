-- The numbers of the slices so far are counted.
use Rattle.std.proofs.Common.{◌≡◌, ◌*◌, length}
use Rattle.bitpack_slices.proofs.chunk.parts.Parts.count_as_bits_each.Given as goal
use Rattle.bitpack_slices.specs.Operations.{combined}
use Rattle.bitpack_slices.specs.Parts.{numbers_in_parts}

abbrev pub invariant-loop-high : goal.invariant-loop-high
invariant-loop-high l = l.count ≡ length (combined (256 * l.high) l.operation (numbers_in_parts l.self) (numbers_in_parts l.other))
