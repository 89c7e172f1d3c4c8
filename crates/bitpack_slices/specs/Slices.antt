-- What a reader finds in slices and bodies.
use Rattle.std.specs.Prelude.{◌≡◌, ℕ, ◌+◌, ◌*◌, ◌<◌, ◌≤◌, ◌&&◌, ◌==◌, true, Bool, is_none, nat_lt, nat_le, if◌then◌else◌, take, drop, List, [], ◌∷◌, ◌++◌, map, length, slice_index, slice_index_or, Option, Some, None, ◌%◌}
use Rattle.std.specs.Int.{bit_at}
use Rattle.std.specs.Int.RustNames.{count_ones}
use Rattle.std.specs.List.{filter, range_with_len}
use Rattle.bitpack_slices.specs.Bodies.{IsRising, slice}

-- the number of bytes, the lowest first
unfoldable pub number_of : List ℕ → ℕ
number_of [] = 0
number_of (byte ∷ bytes) = byte + 256 * number_of bytes

-- which bits of a number are 1, of n bits from `low` on
unfoldable pub ones_from : ℕ → ℕ → ℕ → List ℕ
ones_from x low n = filter (λ i. bit_at x i == 1) (range_with_len low n)

-- how many bits of the bytes are 1
unfoldable pub bits_in : List ℕ → ℕ
bits_in [] = 0
bits_in (byte ∷ bytes) = count_ones byte + bits_in bytes

-- the first position whose number is not above the one before, if the first number has this position
unfoldable pub first_fall : ℕ → List ℕ → Option ℕ
first_fall position [] = None
first_fall position (x ∷ []) = None
first_fall position (x ∷ y ∷ ys) = if nat_le y x then Some (position + 1) else first_fall (position + 1) (y ∷ ys)

abbrev pub rises : List ℕ → Bool
rises xs = is_none (first_fall 0 xs)

-- ---- slices

-- how many bytes the slice of a count of numbers has, and its numbers
abbrev pub slice_len : ℕ → ℕ
slice_len count = if nat_lt count 32 then count else if nat_lt count 256 then 32 else 0

abbrev pub slice_numbers : ℕ → List ℕ → List ℕ
slice_numbers count bytes = if nat_lt count 32 then bytes else if nat_lt count 256 then ones_from (number_of bytes) 0 256 else range_with_len 0 256

-- these bytes, as many as it has, are a slice: they increase, or they have as many bits of 1 as the count says
abbrev pub is_slice : ℕ → List ℕ → Bool
is_slice count bytes = if nat_lt count 32 then rises bytes else if nat_lt count 256 then bits_in bytes == count else true

-- how many bytes slices have; each count less 1 is given
unfoldable pub slices_len : List ℕ → ℕ
slices_len [] = 0
slices_len (less ∷ counts) = slice_len (less + 1) + slices_len counts

-- they end where the bytes end, and each is a slice
unfoldable pub are_slices : List ℕ → List ℕ → Bool
are_slices [] bytes = length bytes == 0
are_slices (less ∷ counts) bytes =
    nat_le (slice_len (less + 1)) (length bytes) && is_slice (less + 1) (take (slice_len (less + 1)) bytes) && are_slices counts (drop (slice_len (less + 1)) bytes)

-- how many numbers they have
unfoldable pub numbers_in : List ℕ → ℕ
numbers_in [] = 0
numbers_in (less ∷ counts) = less + 1 + numbers_in counts

-- their numbers, if these are their high bytes
unfoldable pub numbers_of : List ℕ → List ℕ → List ℕ → List ℕ
numbers_of [] counts bytes = []
numbers_of (high ∷ highs) [] bytes = []
numbers_of (high ∷ highs) (less ∷ counts) bytes =
    map (λ low. high * 256 + low) (slice_numbers (less + 1) (take (slice_len (less + 1)) bytes)) ++ numbers_of highs counts (drop (slice_len (less + 1)) bytes)

-- ---- bodies of blocks

-- how many high bytes occur
abbrev pub high_count : List ℕ → ℕ
high_count body = slice_index body 0 + 1

-- the slice of these, the bytes of the counts, and the slices
abbrev pub highs_in : List ℕ → List ℕ
highs_in body = take (slice_len (high_count body)) (drop 1 body)

abbrev pub counts_in : List ℕ → List ℕ
counts_in body = take (high_count body) (drop (1 + slice_len (high_count body)) body)

abbrev pub slices_in : List ℕ → List ℕ
slices_in body = drop (1 + slice_len (high_count body) + high_count body) body

-- the body is the blocks of `count` numbers: it has all parts, and as many numbers, and its slices are slices
unfoldable pub are_blocks : ℕ → List ℕ → Bool
are_blocks count body =
    nat_lt 0 (length body) && nat_le (1 + slice_len (high_count body) + high_count body) (length body)
    && is_slice (high_count body) (highs_in body) && (numbers_in (counts_in body) == count) && are_slices (counts_in body) (slices_in body)

abbrev pub block_numbers : List ℕ → List ℕ
block_numbers body = numbers_of (slice_numbers (high_count body) (highs_in body)) (counts_in body) (slices_in body)

-- ---- bodies of numbers, and arrays

-- the integers of two bytes
unfoldable pub pairs_of : List ℕ → List ℕ
pairs_of [] = []
pairs_of (low ∷ []) = []
pairs_of (low ∷ high ∷ bytes) = (low + 256 * high) ∷ pairs_of bytes

-- the integers of four bytes
unfoldable pub quads_of : List ℕ → List ℕ
quads_of [] = []
quads_of (a ∷ []) = []
quads_of (a ∷ b ∷ []) = []
quads_of (a ∷ b ∷ c ∷ []) = []
quads_of (a ∷ b ∷ c ∷ d ∷ bytes) = (a + 256 * b + 65536 * c + 16777216 * d) ∷ quads_of bytes

-- the integers of four or of two bytes
abbrev pub integers_of : Bool → List ℕ → List ℕ
integers_of wide bytes = if wide then quads_of bytes else pairs_of bytes

-- ---- what tests of slices and blocks say

-- the bytes are the slice of `count` numbers, which are read from them
pub record IsSlice (count : ℕ) (bytes : List ℕ) : Type 0 where
  pub rising : IsRising 0 256 (slice_numbers count bytes)
  pub count_is : length (slice_numbers count bytes) ≡ count
  pub encoding : slice (slice_numbers count bytes) ≡ bytes

-- the bytes of the slice of `count` numbers that begins at `start` are there, and are a slice
pub record HasSlice (bytes : List ℕ) (start count : ℕ) : Type 0 where
  pub few : count ≤ 256
  pub room : start + slice_len count ≤ length bytes
  pub slice : IsSlice count (take (slice_len count) (drop start bytes))

-- the bytes are slices end to end
abbrev pub AreSlices : List ℕ → List ℕ → Type 0
AreSlices [] bytes = bytes ≡ []
AreSlices (less ∷ counts) bytes =
    (slice_len (less + 1) ≤ length bytes) × IsSlice (less + 1) (take (slice_len (less + 1)) bytes) × AreSlices counts (drop (slice_len (less + 1)) bytes)

-- the bytes are the blocks of `count` numbers
pub record IsBlocks (count : ℕ) (body : List ℕ) : Type 0 where
  pub some : 0 < length body
  pub room : 1 + slice_len (high_count body) + high_count body ≤ length body
  pub highs : IsSlice (high_count body) (highs_in body)
  pub count_is : numbers_in (counts_in body) ≡ count
  pub slices : AreSlices (counts_in body) (slices_in body)

-- ---- a table

-- the row of each byte has eight numbers of bits, and begins with the numbers of the bits that are 1
pub record AreRows (rows : List (List ℕ)) : Type 0 where
  pub count : length rows ≡ 256
  pub small : (byte k : ℕ) (none : List ℕ) → byte < 256 → k < 8 → slice_index (slice_index_or rows byte none) k < 8
  pub positions : (byte : ℕ) (none : List ℕ) → byte < 256 → take (length (ones_from byte 0 8)) (slice_index_or rows byte none) ≡ ones_from byte 0 8

-- the low 16 bits of integers of two or of four bytes
abbrev pub lows_of : ℕ → List ℕ → List ℕ
lows_of size bytes = if size == 2 then pairs_of bytes else map (λ x. x % 65536) (quads_of bytes)
