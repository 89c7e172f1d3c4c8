-- What is measured and written of wide sets.
use Rattle.std.specs.Prelude.{◌≡◌, ℕ, ◌*◌, ◌≤◌, ◌++◌, false, List, length, map}
use Rattle.std.specs.List.{concat, flat_map}
use Rattle.bitpack_slices.specs.Bodies.{le_bytes}
use Rattle.bitpack_sets.specs.Sets.{sums}
use Rattle.bitpack_wide.specs.Wide.{bodies, encoding, is_spread, words_of}

-- the length of the encoding of a set, how many high words it has, and in words how many bytes are id sets
pub record IsMeasured (ids : List ℕ) (len words bytes : ℕ) : Type 0 where
  pub len_is : len ≡ length (encoding ids)
  pub words_is : words ≡ length (words_of ids)
  pub bytes_is : is_spread (length ids) words ≡ false → bytes ≡ length (concat (bodies (words_of ids)))
  pub few : words ≤ length ids
  pub small : bytes ≤ 15 * length ids

-- the high words, the ends of their id sets, and the sums of their ids
abbrev pub highs_encoding : List ℕ → List ℕ
highs_encoding ids = flat_map (le_bytes 4) (map (λ word. word.0) (words_of ids))

abbrev pub ends_encoding : ℕ → List ℕ → List ℕ
ends_encoding size ids = flat_map (le_bytes size) (sums 0 (map length (bodies (words_of ids))))

abbrev pub sums_encoding : ℕ → List ℕ → List ℕ
sums_encoding size ids = flat_map (le_bytes size) (sums 0 (map (λ word. length word.1) (words_of ids)))

-- the directory and the id sets
abbrev pub directory : ℕ → ℕ → List ℕ → List ℕ
directory end_size sum_size ids = highs_encoding ids ++ (ends_encoding end_size ids ++ (sums_encoding sum_size ids ++ concat (bodies (words_of ids))))
