-- Where each bit of each code of a block is in its bytes.
use Rattle.std.specs.Prelude.{◌≡◌, ℕ, ◌+◌, ◌*◌, ◌/◌, ◌%◌, ◌<◌, List, map, length, slice_index}
use Rattle.std.specs.Int.{bit_at}
use Rattle.std.specs.List.{range_with_len}
use Rattle.bitpacking.specs.declared.kind.Kind.{Kind}
use Rattle.bitpacking.specs.Bits.{bit_of}
use Rattle.bitpacking.specs.Codes.{codes}
use Rattle.bitpacking.specs.Width.{Fits}
use Rattle.bitpacking.specs.Words.{joined}

-- how many bytes a block takes
abbrev pub size : ℕ → ℕ → ℕ
size lanes width = 4 * lanes * width

-- The bit number of bit j of code k in the bytes. The codes of lane `k % lanes` follow each other, from the lowest bit
-- on, in every `lanes`-th word of 32 bits, from word `k % lanes` on.
unfoldable pub place : ℕ → ℕ → ℕ → ℕ → ℕ
place lanes width k j =
    let p = k / lanes * width + j in
    32 * (lanes * (p / 32) + k % lanes) + p % 32

-- the bytes are the layout of the codes: each bit of a code is at its bit number
pub record Layout (lanes width : ℕ) (codes bytes : List ℕ) : Type 0 where
  pub code_count : length codes ≡ 32 * lanes
  pub byte_count : length bytes ≡ size lanes width
  pub fits : Fits codes width
  pub bits : (k j : ℕ) → k < 32 * lanes → j < width
      → bit_at (slice_index codes k) j ≡ bit_of bytes (place lanes width k j)

-- the codes whose layout the bytes are: bit j of code k is the bit at its bit number
unfoldable pub codes_of : ℕ → ℕ → List ℕ → List ℕ
codes_of lanes width bytes = map (λ k. joined 1 (λ j. bit_of bytes (place lanes width k j)) width) (range_with_len 0 (32 * lanes))

-- the bytes are the layout of the codes of the block
abbrev pub Holds : ℕ → ℕ → Kind → List ℕ → List ℕ → Type 0
Holds lanes width kind block bytes = Layout lanes width (codes kind block) bytes
