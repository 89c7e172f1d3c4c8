-- The numbers of a chunk, by the form of its body.
use Rattle.std.specs.Prelude.{ℕ, List, length}
use Rattle.bitpack_slices.specs.Bodies.{IsRising}
use Rattle.bitpack_slices.specs.Runs.{runs_from}
use Rattle.bitpack_slices.specs.Slices.{IsBlocks, block_numbers, pairs_of}
use Rattle.bitpack_slices.specs.declared.chunk.Lows.{Lows}
use Rattle.bitpack_slices.specs.declared.chunk.Lows.TheVariants.{Blocks, Numbers, Runs}

-- the numbers
abbrev pub lows : Lows → List ℕ
lows (Numbers body) = pairs_of body.now
lows (Blocks body) = block_numbers body.now
lows (Runs runs) = runs_from 0 runs.bounds.now

-- its bytes are such a body
abbrev pub AreLows : Lows → Type 0
AreLows (Numbers body) = IsRising 0 65536 (pairs_of body.now)
AreLows (Blocks body) = IsBlocks (length (block_numbers body.now)) body.now
AreLows (Runs runs) = IsRising 0 65536 (pairs_of runs.bounds.now)
