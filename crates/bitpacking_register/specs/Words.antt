-- A register is a list of words: what its operations do to that list.
use Rattle.std.specs.Prelude.{ℕ, zero, suc, ◌+◌, ◌-◌, ◌*◌, ◌/◌, ◌%◌, ◌^◌, List, [], ◌∷◌, ◌++◌, take, drop}
use Rattle.std.specs.Int.{w32, to_le_bytes, from_le_bytes}

-- The first n numbers of a list, each modulo 2 ^ 32, and 0 past its end. Of a list of exactly n words it is that list.
unfoldable pub first_words : ℕ → List ℕ → List ℕ
first_words zero xs = []
first_words (suc n) [] = 0 ∷ first_words n []
first_words (suc n) (x ∷ xs) = x % 2 ^ 32 ∷ first_words n xs

-- the list of one word
abbrev pub one_word : ℕ → List ℕ
one_word x = x % 2 ^ 32 ∷ []

abbrev pub shifted_left : ℕ → ℕ → ℕ
shifted_left shift x = x * 2 ^ shift % 2 ^ 32

abbrev pub shifted_right : ℕ → ℕ → ℕ
shifted_right shift x = x / 2 ^ shift

abbrev pub wrapping_sum : ℕ → ℕ → ℕ
wrapping_sum x y = (x + y) % 2 ^ 32

-- x - y modulo 2 ^ 32, for y up to 2 ^ 32
abbrev pub wrapping_difference : ℕ → ℕ → ℕ
wrapping_difference x y = (x + (2 ^ 32 - y)) % 2 ^ 32

-- the bytes of each word, the lowest first
abbrev pub bytes_of_words : List ℕ → List ℕ
bytes_of_words [] = []
bytes_of_words (x ∷ xs) = to_le_bytes w32 x ++ bytes_of_words xs

-- the words whose bytes these are, four for each, the lowest first
abbrev pub words_of_bytes : List ℕ → List ℕ
words_of_bytes (a ∷ b ∷ c ∷ d ∷ bytes) = from_le_bytes w32 (a ∷ b ∷ c ∷ d ∷ []) ∷ words_of_bytes bytes
words_of_bytes _ = []

-- the word whose little-endian bytes are those from `at` on
unfoldable pub word_in : List ℕ → ℕ → ℕ
word_in bytes at = from_le_bytes w32 (take 4 (drop at bytes))
