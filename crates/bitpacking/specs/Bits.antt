-- The bits of a list of bytes.
use Rattle.std.specs.Prelude.{ℕ, ◌^◌, ◌/◌, ◌%◌, ◌<◌, List, slice_index}
use Rattle.std.specs.Int.{bit_at}

-- each number of the list is a byte
abbrev pub AreBytes : List ℕ → Type 0
AreBytes bytes = (k : ℕ) → slice_index bytes k < 2 ^ 8

-- bit t of the bytes, the lowest bit of each byte first
abbrev pub bit_of : List ℕ → ℕ → ℕ
bit_of bytes t = bit_at (slice_index bytes (t / 8)) (t % 8)
