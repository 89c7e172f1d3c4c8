-- What a reader finds in a set in chunks. The rest of its bytes is what is after the count of chunks.
use Rattle.std.specs.Prelude.{ℕ, zero, suc, ◌+◌, ◌-◌, ◌*◌, ◌/◌, ◌%◌, ◌==◌, if◌then◌else◌, List, map, length, take, drop, slice_index}
use Rattle.std.specs.List.{flat_map, range_with_len}
use Rattle.bitpack_slices.specs.Runs.{begins_runs, runs_from}
use Rattle.bitpack_slices.specs.Slices.{block_numbers, pairs_of}
use Rattle.bitpack_sets.specs.Varints.{short_at}

-- how many bytes an end has, and a sum
abbrev pub end_size : List ℕ → ℕ
end_size rest = slice_index rest 0 % 16

abbrev pub sum_size : List ℕ → ℕ
sum_size rest = slice_index rest 0 / 16

-- key m, end m and sum m
abbrev pub key_at : List ℕ → ℕ → ℕ
key_at rest = short_at 2 (drop 1 rest)

abbrev pub end_at : ℕ → List ℕ → ℕ → ℕ
end_at chunks rest = short_at (end_size rest) (drop (1 + 2 * chunks) rest)

abbrev pub sum_at : ℕ → List ℕ → ℕ → ℕ
sum_at chunks rest = short_at (sum_size rest) (drop (1 + (2 + end_size rest) * chunks) rest)

-- the number of the chunk before, 0 before the first
abbrev pub before : (ℕ → ℕ) → ℕ → ℕ
before number zero = 0
before number (suc m) = number m

-- how many ids chunk m has, and how many bytes its body
abbrev pub count_at : ℕ → List ℕ → ℕ → ℕ
count_at chunks rest m = sum_at chunks rest m - before (sum_at chunks rest) m

abbrev pub size_at : ℕ → List ℕ → ℕ → ℕ
size_at chunks rest m = end_at chunks rest m - before (end_at chunks rest) m

-- where the bodies begin, and body m
abbrev pub bodies_start : ℕ → List ℕ → ℕ
bodies_start chunks rest = 1 + (2 + end_size rest + sum_size rest) * chunks

abbrev pub body_at : ℕ → List ℕ → ℕ → List ℕ
body_at chunks rest m = take (size_at chunks rest m) (drop (bodies_start chunks rest + before (end_at chunks rest) m) rest)

-- where the last one ends
abbrev pub bodies_end : ℕ → List ℕ → ℕ
bodies_end chunks rest = bodies_start chunks rest + before (end_at chunks rest) chunks

-- the numbers of a body of `count`: its size or its first two bytes tell what it is
abbrev pub body_numbers_of : ℕ → List ℕ → List ℕ
body_numbers_of count body = if length body == 2 * count then pairs_of body else if begins_runs body then runs_from 0 (drop 2 body) else block_numbers body

-- chunk m: its key and its numbers
abbrev pub chunk_at : ℕ → List ℕ → ℕ → ℕ × List ℕ
chunk_at chunks rest m = (key_at rest m, body_numbers_of (count_at chunks rest m) (body_at chunks rest m))

-- the ids of chunks
abbrev pub ids_of_chunks : List (ℕ × List ℕ) → List ℕ
ids_of_chunks chunks = flat_map (λ chunk. map (λ low. chunk.0 * 65536 + low) chunk.1) chunks

abbrev pub chunk_ids : ℕ → List ℕ → List ℕ
chunk_ids chunks rest = ids_of_chunks (map (chunk_at chunks rest) (range_with_len 0 chunks))
