-- The numbers of the parts of a body of blocks.
use Rattle.std.specs.Prelude.{ℕ, List, length}
use Rattle.bitpack_slices.specs.Slices.{numbers_of, slice_numbers}
use Rattle.bitpack_slices.specs.declared.chunk.parts.Parts.{Parts}

abbrev pub numbers_in_parts : Parts → List ℕ
numbers_in_parts parts = numbers_of (slice_numbers (length parts.counts.now) parts.highs.now) parts.counts.now parts.slices.now
