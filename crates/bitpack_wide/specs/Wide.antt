-- Wide sets: the one encoding of a set of ids of 64 bits. A wide set is the increasing list of its ids. The high word of an id is id / 2 ^ 32, its low
-- word is id % 2 ^ 32.
use Rattle.std.specs.Prelude.{ℕ, ◌+◌, ◌*◌, ◌/◌, ◌%◌, ◌^◌, ◌≤◌, ◌==◌, ◌||◌, Bool, nat_lt, if◌then◌else◌, List, ◌∷◌, ◌++◌, map, length}
use Rattle.std.specs.List.{concat, flat_map}
use Rattle.bitpack_groups.specs.Numbers.{byte_count, number}
use Rattle.bitpack_slices.specs.Bodies.{IsRising, le_bytes, parts}
use Rattle.bitpack_sets.specs.Sets as sets
use Rattle.bitpack_sets.specs.Sets.{sums}
use Rattle.bitpack_columns.specs.Columns as columns
use Rattle.bitpack_columns.specs.declared.column_kind.ColumnKind.TheVariants.{Sorted}

-- the list is a wide set
pub record IsWide (ids : List ℕ) : Type 0 where
  pub few : length ids ≤ 2 ^ 28
  pub rising : IsRising 0 (2 ^ 64) ids

-- the high word of each id, and the low word
abbrev pub highs : List ℕ → List ℕ
highs ids = map (λ id. id / 2 ^ 32) ids

abbrev pub lows : List ℕ → List ℕ
lows ids = map (λ id. id % 2 ^ 32) ids

-- each high word that occurs, with the low words of its ids
abbrev pub words_of : List ℕ → List (ℕ × List ℕ)
words_of ids = parts (2 ^ 32) ids

-- a set of this many ids with this many high words is spread out, and else in words
abbrev pub is_spread : ℕ → ℕ → Bool
is_spread ids words = (ids == 0) || nat_lt ids (8 * words)

-- ---- in words: an id set for each high word

abbrev pub bodies : List (ℕ × List ℕ) → List (List ℕ)
bodies words = map (λ word. sets.encoding word.1) words

unfoldable pub in_words : List ℕ → List ℕ
in_words ids =
    let words = words_of ids in
    let end_size = byte_count (length (concat (bodies words))) in
    let sum_size = byte_count (length ids) in
    8 ∷ number (length ids) ++ number (length words) ++ (end_size + 16 * sum_size) ∷ flat_map (λ word. le_bytes 4 word.0) words
    ++ flat_map (le_bytes end_size) (sums 0 (map length (bodies words))) ++ flat_map (le_bytes sum_size) (sums 0 (map (λ word. length word.1) words))
    ++ concat (bodies words)

-- ---- spread out: a sorted column of the high words, and the low words

unfoldable pub spread : List ℕ → List ℕ
spread ids = 9 ∷ number (length ids) ++ columns.encoding Sorted (highs ids) ++ flat_map (le_bytes 4) (lows ids)

-- the encoding of a wide set
unfoldable pub encoding : List ℕ → List ℕ
encoding ids = if is_spread (length ids) (length (words_of ids)) then spread ids else in_words ids
