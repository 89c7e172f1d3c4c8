-- The first fault of the body of a chunk.
use Rattle.std.specs.Prelude.{ℕ, ◌*◌, ◌/◌, ◌==◌, ◌||◌, drop, nat_lt, if◌then◌else◌, List, length, Option, Some, None}
use Rattle.std.specs.Option.{option_map, option_or}
use Rattle.bitpack_slices.specs.declared.set_error.SetError.{SetError}
use Rattle.bitpack_slices.specs.declared.set_error.SetError.TheVariants.{NotSorted, BadBody, LooseBody}
use Rattle.bitpack_slices.specs.Bodies.{blocks}
use Rattle.bitpack_slices.specs.Runs.{are_few, are_runs, begins_runs, boundaries}
use Rattle.bitpack_slices.specs.Slices.{are_blocks, block_numbers, first_fall, pairs_of}

-- of a body of `count` numbers of chunk m that is not two bytes a number: of the boundaries of runs, and of blocks
abbrev pub runs_fault : ℕ → ℕ → List ℕ → Option SetError
runs_fault m count bytes =
    if are_runs count bytes then (if are_few (length bytes / 2) count then None else Some (LooseBody m)) else Some (BadBody m)

abbrev pub blocks_fault : ℕ → ℕ → List ℕ → Option SetError
blocks_fault m count body =
    if are_blocks count body then (if are_few (length (boundaries (block_numbers body))) count then Some (LooseBody m) else None) else Some (BadBody m)

-- of the body of chunk m, of `count` numbers after `position` others
unfoldable pub body_fault : ℕ → ℕ → ℕ → List ℕ → Option SetError
body_fault m position count body =
    if length body == 2 * count then
    option_or (option_map NotSorted (first_fall position (pairs_of body)))
    (if are_few (length (boundaries (pairs_of body))) count || nat_lt (length (blocks (pairs_of body))) (2 * count) then Some (LooseBody m) else None)
    else if begins_runs body then runs_fault m count (drop 2 body)
    else blocks_fault m count body
