-- The bytes of a bitmap in Roaring's portable format, with the forms of containers that CRoaring writes after `roaring_bitmap_run_optimize`.
use Rattle.std.specs.Prelude.{◌≡◌, ℕ, ◌+◌, ◌-◌, ◌*◌, ◌/◌, ◌^◌, ◌<◌, ◌≤◌, ◌==◌, ◌&&◌, nat_lt, nat_le, if◌then◌else◌, Bool, List, [], ◌∷◌, ◌++◌, map, length, drop}
use Rattle.std.specs.List.{concat, flat_map, list_any}
use Rattle.bitpack_slices.specs.Bodies.{bits, le_bytes, parts}

-- increasing numbers by their runs: the first number of each, and the number of the others
unfoldable pub with_first : ℕ → List (ℕ × ℕ) → List (ℕ × ℕ)
with_first x [] = (x, 0) ∷ []
with_first x (run ∷ runs) = if run.0 == x + 1 then (x, run.1 + 1) ∷ runs else (x, 0) ∷ run ∷ runs

unfoldable pub runs_of : List ℕ → List (ℕ × ℕ)
runs_of [] = []
runs_of (x ∷ xs) = with_first x (runs_of xs)

-- these numbers are runs: they take fewer bytes than bits, or than an array of at most 4,096 with a count
abbrev pub are_runs : List ℕ → Bool
are_runs numbers = nat_lt (2 + 4 * length (runs_of numbers)) (if nat_le (length numbers) 4096 then 2 + 2 * length numbers else 8192)

-- the bytes of a container with these numbers
unfoldable pub container : List ℕ → List ℕ
container numbers =
    if are_runs numbers then le_bytes 2 (length (runs_of numbers)) ++ flat_map (λ run. le_bytes 2 run.0 ++ le_bytes 2 run.1) (runs_of numbers)
    else if nat_le (length numbers) 4096 then flat_map (le_bytes 2) numbers
    else le_bytes 8192 (bits numbers)

-- where parts begin, the first at `start`, if they have these sizes
unfoldable pub starts : ℕ → List ℕ → List ℕ
starts start [] = []
starts start (size ∷ sizes) = start ∷ starts (start + size) sizes

-- which of these are runs
unfoldable pub flagged : ℕ → List (List ℕ) → List ℕ
flagged m [] = []
flagged m (numbers ∷ others) = if are_runs numbers then m ∷ flagged (m + 1) others else flagged (m + 1) others

-- the cookie, the count and the flags
unfoldable pub cookie : List (List ℕ) → List ℕ
cookie containers =
    if list_any are_runs containers
    then le_bytes 2 12347 ++ le_bytes 2 (length containers - 1) ++ le_bytes ((length containers + 7) / 8) (bits (flagged 0 containers))
    else le_bytes 4 12346 ++ le_bytes 4 (length containers)

-- all bytes
unfoldable pub roaring : List ℕ → List ℕ
roaring ids =
    let chunks = parts (2 ^ 16) ids in
    let all = map (λ chunk. chunk.1) chunks in
    let head = cookie all ++ flat_map (λ chunk. le_bytes 2 chunk.0 ++ le_bytes 2 (length chunk.1 - 1)) chunks in
    let bodies = map container all in
    let offsets = flat_map (le_bytes 4) (starts (length head + 4 * length chunks) (map length bodies)) in
    head ++ (if list_any are_runs all && nat_lt (length chunks) 4 then [] else offsets) ++ concat bodies

-- the bitmap of ids is written if there is room for it; otherwise nothing changes
pub record WritesBitmap (ids : List ℕ) (result : ℕ) (old new : List ℕ) : Type 0 where
  pub len : result ≡ length (roaring ids)
  pub written : result ≤ length old → new ≡ roaring ids ++ drop result old
  pub short : length old < result → new ≡ old
