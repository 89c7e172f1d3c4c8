-- The one encoding of the body of a chunk.
use Rattle.std.specs.Prelude.{ℕ, ◌*◌, nat_lt, if◌then◌else◌, List, length}
use Rattle.bitpack_slices.specs.Bodies.{blocks, numbers}
use Rattle.bitpack_slices.specs.Runs.{are_few, boundaries, runs}

-- the body of a chunk of numbers below 2 ^ 16
unfoldable pub body : List ℕ → List ℕ
body chunk =
    if are_few (length (boundaries chunk)) (length chunk) then runs (boundaries chunk)
    else if nat_lt (length (blocks chunk)) (2 * length chunk) then blocks chunk
    else numbers chunk
