-- Runs: the numbers of a chunk by its boundaries. A number is a boundary if the chunk has exactly one of it and the number before it.
use Rattle.std.specs.Prelude.{ℕ, ◌+◌, ◌-◌, ◌*◌, ◌%◌, ◌&&◌, ◌==◌, Bool, drop, nat_lt, nat_le, if◌then◌else◌, List, [], ◌∷◌, ◌++◌, length, slice_index}
use Rattle.std.specs.List.{flat_map, range_with_len}
use Rattle.bitpack_slices.specs.Bodies.{le_bytes}
use Rattle.bitpack_slices.specs.Slices.{pairs_of, rises}

-- the numbers of boundaries: the first begins a run, the next is the first number after it, and so on; a run with no end goes on to 65535
unfoldable pub run_numbers : List ℕ → List ℕ
run_numbers [] = []
run_numbers (begin ∷ []) = range_with_len begin (65536 - begin)
run_numbers (begin ∷ end ∷ bounds) = range_with_len begin (end - begin) ++ run_numbers bounds

-- the boundaries after a number, which increasing numbers follow
unfoldable pub bounds_after : ℕ → List ℕ → List ℕ
bounds_after x [] = if nat_lt x 65535 then (x + 1) ∷ [] else []
bounds_after x (y ∷ ys) = if y == x + 1 then bounds_after y ys else (x + 1) ∷ y ∷ bounds_after y ys

-- the boundaries of increasing numbers
unfoldable pub boundaries : List ℕ → List ℕ
boundaries [] = []
boundaries (x ∷ xs) = x ∷ bounds_after x xs

-- the numbers of the runs from an index on, of boundaries of two bytes each
abbrev pub runs_from : ℕ → List ℕ → List ℕ
runs_from index bytes = run_numbers (drop (2 * index) (pairs_of bytes))

-- whether `count` numbers with this number of boundaries are runs: at most 64 boundaries, and at least 8 numbers for each
abbrev pub are_few : ℕ → ℕ → Bool
are_few bounds count = nat_le bounds 64 && nat_le (8 * bounds) count

-- the body of runs with these boundaries
unfoldable pub runs : List ℕ → List ℕ
runs bounds = 1 ∷ 255 ∷ flat_map (le_bytes 2) bounds

-- whether a body begins as runs do, as no body of blocks does
abbrev pub begins_runs : List ℕ → Bool
begins_runs body = nat_le 2 (length body) && (slice_index body 0 == 1) && (slice_index body 1 == 255)

-- bytes are boundaries that increase, of runs with `count` numbers
abbrev pub are_runs : ℕ → List ℕ → Bool
are_runs count bytes =
    nat_lt 0 (length bytes) && (length bytes % 2 == 0) && rises (pairs_of bytes) && (length (runs_from 0 bytes) == count)
