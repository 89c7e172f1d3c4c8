-- Roaring's portable format: the ids that the bytes of a bitmap stand for. A container has the ids with the same high 16 bits, its key: as runs, as
-- an array, or as bits.
use Rattle.std.specs.Prelude.{ℕ, zero, suc, ◌+◌, ◌*◌, ◌/◌, ◌%◌, ◌==◌, false, true, nat_le, if◌then◌else◌, Bool, List, [], ◌∷◌, map, take, drop, slice_index}
use Rattle.std.specs.Int.{bit_at}
use Rattle.std.specs.List.{range_with_len}
use Rattle.bitpack_slices.specs.Runs.{run_numbers}
use Rattle.bitpack_slices.specs.Slices.{number_of, ones_from, pairs_of}
use Rattle.bitpack_sets.specs.Directory.{ids_of_chunks}
unfoldable pub use Rattle.bitpack_groups.specs.Numbers.{short_at}

-- ---- the head: a cookie, the number of containers, which of them are runs; the key and the count of each, and its offset

-- the first two bytes say that some containers are runs
unfoldable pub has_runs : List ℕ → Bool
has_runs bytes = short_at 2 bytes 0 == 12347

-- the number of containers
unfoldable pub containers : List ℕ → ℕ
containers bytes = if has_runs bytes then short_at 2 bytes 1 + 1 else short_at 4 bytes 1

-- where the keys and counts begin: after a bit for each container, or after the number of containers
unfoldable pub keys_start : List ℕ → ℕ
keys_start bytes = if has_runs bytes then 4 + (containers bytes + 7) / 8 else 8

-- there are offsets
unfoldable pub has_offsets : List ℕ → Bool
has_offsets bytes = if has_runs bytes then nat_le 4 (containers bytes) else true

-- where the first container begins
unfoldable pub head_len : List ℕ → ℕ
head_len bytes = keys_start bytes + (if has_offsets bytes then 8 else 4) * containers bytes

-- the key of container m, the number of its ids, and its offset
unfoldable pub key_at : List ℕ → ℕ → ℕ
key_at bytes m = short_at 2 (drop (keys_start bytes) bytes) (2 * m)

unfoldable pub count_at : List ℕ → ℕ → ℕ
count_at bytes m = short_at 2 (drop (keys_start bytes) bytes) (2 * m + 1) + 1

unfoldable pub offset_at : List ℕ → ℕ → ℕ
offset_at bytes m = short_at 4 (drop (keys_start bytes + 4 * containers bytes) bytes) m

-- container m is runs
unfoldable pub is_run : List ℕ → ℕ → Bool
is_run bytes m = if has_runs bytes then bit_at (slice_index bytes (4 + m / 8)) (m % 8) == 1 else false

-- ---- the containers

-- the number of bytes of container m, if it begins at `start`: four for each run, two for each id of at most 4,096, or a bit for each number
unfoldable pub size_from : List ℕ → ℕ → ℕ → ℕ
size_from bytes m start =
    if is_run bytes m then 2 + 4 * short_at 2 (drop start bytes) 0
    else if nat_le (count_at bytes m) 4096 then 2 * count_at bytes m
    else 8192

-- where container m begins, and the number of ids before it
unfoldable pub start_at : List ℕ → ℕ → ℕ
start_at bytes zero = head_len bytes
start_at bytes (suc m) = start_at bytes m + size_from bytes m (start_at bytes m)

unfoldable pub position_at : List ℕ → ℕ → ℕ
position_at bytes zero = 0
position_at bytes (suc m) = position_at bytes m + count_at bytes m

-- the first number of each run, and the number after its last. Two integers say it: the first number, and the number of the others
unfoldable pub bounds_of : List ℕ → List ℕ
bounds_of [] = []
bounds_of (first ∷ []) = []
bounds_of (first ∷ others ∷ runs) = first ∷ (first + others + 1) ∷ bounds_of runs

-- the boundaries of a container of runs
abbrev pub bounds_in : List ℕ → List ℕ
bounds_in body = bounds_of (pairs_of (drop 2 body))

-- the numbers of a container: of runs, of an array, or of bits
unfoldable pub numbers_of : Bool → ℕ → List ℕ → List ℕ
numbers_of run count body =
    if run then run_numbers (bounds_in body)
    else if nat_le count 4096 then pairs_of body
    else ones_from (number_of body) 0 65536

-- the bytes of container m, and its numbers
abbrev pub body_at : List ℕ → ℕ → List ℕ
body_at bytes m = take (size_from bytes m (start_at bytes m)) (drop (start_at bytes m) bytes)

abbrev pub numbers_at : List ℕ → ℕ → List ℕ
numbers_at bytes m = numbers_of (is_run bytes m) (count_at bytes m) (body_at bytes m)

-- container m: its key and its numbers
abbrev pub container_at : List ℕ → ℕ → ℕ × List ℕ
container_at bytes m = (key_at bytes m, numbers_at bytes m)

-- the ids of the first containers, and of all
abbrev pub ids_before : List ℕ → ℕ → List ℕ
ids_before bytes m = ids_of_chunks (map (container_at bytes) (range_with_len 0 m))

abbrev pub ids_of : List ℕ → List ℕ
ids_of bytes = ids_before bytes (containers bytes)
