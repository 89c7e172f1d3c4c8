-- What a reader finds in a set in words. The rest of its bytes is what is after the count of high words.
use Rattle.std.specs.Prelude.{ℕ, ◌+◌, ◌-◌, ◌*◌, ◌^◌, List, map, take, drop}
use Rattle.std.specs.List.{flat_map, range_with_len}
use Rattle.bitpack_groups.specs.Numbers.{short_at}
use Rattle.bitpack_sets.specs.Reads as set_reads
pub use Rattle.bitpack_sets.specs.Directory.{before, end_size, sum_size}

-- high word m, end m and sum m
abbrev pub high_at : List ℕ → ℕ → ℕ
high_at rest = short_at 4 (drop 1 rest)

abbrev pub end_at : ℕ → List ℕ → ℕ → ℕ
end_at words rest = short_at (end_size rest) (drop (1 + 4 * words) rest)

abbrev pub sum_at : ℕ → List ℕ → ℕ → ℕ
sum_at words rest = short_at (sum_size rest) (drop (1 + (4 + end_size rest) * words) rest)

-- how many ids have high word m, and how many bytes the body of their low words has
abbrev pub count_at : ℕ → List ℕ → ℕ → ℕ
count_at words rest m = sum_at words rest m - before (sum_at words rest) m

abbrev pub size_at : ℕ → List ℕ → ℕ → ℕ
size_at words rest m = end_at words rest m - before (end_at words rest) m

-- where the bodies begin, and body m
abbrev pub bodies_start : ℕ → List ℕ → ℕ
bodies_start words rest = 1 + (4 + end_size rest + sum_size rest) * words

abbrev pub body_at : ℕ → List ℕ → ℕ → List ℕ
body_at words rest m = take (size_at words rest m) (drop (bodies_start words rest + before (end_at words rest) m) rest)

-- where the last one ends
abbrev pub bodies_end : ℕ → List ℕ → ℕ
bodies_end words rest = bodies_start words rest + before (end_at words rest) words

-- high word m, and the low words of its ids
abbrev pub word_at : ℕ → List ℕ → ℕ → ℕ × List ℕ
word_at words rest m = (high_at rest m, set_reads.ids_in (body_at words rest m))

-- the ids of high words and low words
abbrev pub ids_of_words : List (ℕ × List ℕ) → List ℕ
ids_of_words words = flat_map (λ word. map (λ low. word.0 * 2 ^ 32 + low) word.1) words

abbrev pub word_ids : ℕ → List ℕ → List ℕ
word_ids words rest = ids_of_words (map (word_at words rest) (range_with_len 0 words))
