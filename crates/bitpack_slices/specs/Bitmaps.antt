-- Bitmaps: words of 64 bits, the lowest first. The bitmap of a chunk has 65,536 bits, 256 for each high byte.
use Rattle.std.specs.Prelude.{◌≡◌, ℕ, ◌+◌, ◌*◌, ◌/◌, ◌%◌, ◌<◌, ◌&&◌, ◌==◌, true, Bool, List, length, slice_index, slice_index_or}
use Rattle.std.specs.Int.{bit_at}
use Rattle.std.specs.List.{list_any}
use Rattle.bitpack_slices.specs.Operations.{those}
use Rattle.bitpack_slices.specs.Reads.{has}

-- bit i is 1
unfoldable pub has_bit : List ℕ → ℕ → Bool
has_bit words i = bit_at (slice_index words (i / 64)) (i % 64) == 1

-- one of the numbers has this high byte
abbrev pub has_high : ℕ → List ℕ → Bool
has_high high xs = list_any (λ x. x / 256 == high) xs

-- the bits of these high bytes say which of these numbers there are; other bits say nothing
abbrev pub Represents : List ℕ → List ℕ → List ℕ → Type 0
Represents highs words xs = (x : ℕ) → x < 65536 → has (x / 256) highs ≡ true → has_bit words x ≡ has x xs

-- the numbers that have one of these high bytes, and whose bits are 1
abbrev pub bitmap_numbers : List ℕ → List ℕ → List ℕ
bitmap_numbers highs words = those 65536 (λ x. has (x / 256) highs && has_bit words x)

-- the low bytes of the numbers that have this high byte, and whose bits are 1
abbrev pub high_lows : List ℕ → ℕ → List ℕ
high_lows words high = those 256 (λ i. has_bit words (256 * high + i))

-- the row of each byte has one bit of 256 that is 1, of this number
pub record AreBits (rows : List (List ℕ)) : Type 0 where
  pub count : length rows ≡ 256
  pub bits : (byte i : ℕ) (none : List ℕ) → byte < 256 → i < 256 → has_bit (slice_index_or rows byte none) i ≡ (i == byte)
