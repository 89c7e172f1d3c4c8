-- What is measured and written of chunks, and how many bytes a container has.
use Rattle.std.specs.Prelude.{ℕ, ◌+◌, ◌-◌, ◌*◌, ◌/◌, Bool, List, [], ◌++◌, length, map, nat_le, nat_lt, if◌then◌else◌}
use Rattle.std.specs.List.{flat_map, list_any}
use Rattle.bitpack_slices.specs.Bitmaps.{has_bit}
use Rattle.bitpack_slices.specs.Bodies.{bits, le_bytes}
use Rattle.bitpack_slices.specs.Operations.{those}
use Rattle.bitpack_roaring.specs.Written.{are_runs, container, starts}

-- the numbers of each chunk
abbrev pub lists : List (ℕ × List ℕ) → List (List ℕ)
lists chunks = map (λ chunk. chunk.1) chunks

-- some chunk is runs
abbrev pub has_run : List (ℕ × List ℕ) → Bool
has_run chunks = list_any are_runs (lists chunks)

-- the containers, and their keys and counts
abbrev pub bodies : List (ℕ × List ℕ) → List (List ℕ)
bodies chunks = map container (lists chunks)

abbrev pub entries : List (ℕ × List ℕ) → List ℕ
entries chunks = flat_map (λ chunk. le_bytes 2 chunk.0 ++ le_bytes 2 (length chunk.1 - 1)) chunks

-- the offsets, if there are some
abbrev pub starts_of : ℕ → List (ℕ × List ℕ) → List ℕ
starts_of start chunks = flat_map (le_bytes 4) (starts start (map length (bodies chunks)))

abbrev pub offsets_of : Bool → ℕ → List (ℕ × List ℕ) → List ℕ
offsets_of offsets start chunks = if offsets then starts_of start chunks else []

-- the cookie, the count and the flags, which are the lowest bits of words
abbrev pub cookie_of : Bool → ℕ → List ℕ → List ℕ
cookie_of runs containers flags =
    if runs
    then le_bytes 2 12347 ++ le_bytes 2 (containers - 1) ++ le_bytes ((containers + 7) / 8) (bits (those (8 * ((containers + 7) / 8)) (has_bit flags)))
    else le_bytes 4 12346 ++ le_bytes 4 containers

-- whether `count` numbers take fewer bytes as this many runs, and how many bytes their container has
abbrev pub pays : ℕ → ℕ → Bool
pays count runs = nat_lt (2 + 4 * runs) (if nat_le count 4096 then 2 + 2 * count else 8192)

abbrev pub size : ℕ → ℕ → ℕ
size count runs = if pays count runs then 2 + 4 * runs else if nat_le count 4096 then 2 * count else 8192
