-- Numbers: integers of seven bits a byte, the lowest first, with 128 added to every byte but the last. A number has at most five bytes.
use Rattle.std.specs.Prelude.{ℕ, zero, suc, max, ◌+◌, ◌*◌, ◌/◌, ◌%◌, ◌^◌, ◌&&◌, ◌==◌, nat_lt, nat_le, if◌then◌else◌, List, [], ◌∷◌, length, slice_index, Option, Some, None}
use Rattle.std.specs.Option.{option_or}
use Rattle.bitpacking.specs.Words.{joined}
use Rattle.bitpack_groups.specs.declared.group_error.GroupError.{GroupError}
use Rattle.bitpack_groups.specs.declared.group_error.GroupError.TheVariants.{Short, BadNumber, TooLong}

-- the bytes of a number, at most this many of them
unfoldable pub number_in : ℕ → ℕ → List ℕ
number_in zero x = []
number_in (suc more) x = if nat_lt x 128 then x ∷ [] else (x % 128 + 128) ∷ number_in more (x / 128)

-- the number of a number below 2 ^ 32
abbrev pub number : ℕ → List ℕ
number x = number_in 5 x

-- how many of the first `most` bytes say that another follows, before one that does not
unfoldable pub going_on : ℕ → List ℕ → ℕ
going_on zero bytes = 0
going_on (suc most) [] = 0
going_on (suc most) (byte ∷ bytes) = if nat_lt byte 128 then 0 else suc (going_on most bytes)

-- how many bytes the number at the front has
unfoldable pub number_end : List ℕ → ℕ
number_end bytes = going_on 5 bytes + 1

-- the number of the number at the front: seven bits of each of its bytes
unfoldable pub number_value : List ℕ → ℕ
number_value bytes = joined 7 (λ i. slice_index bytes i % 128) (number_end bytes)

-- the first fault of the number at the front
unfoldable pub number_fault : List ℕ → Option GroupError
number_fault bytes =
    if going_on 5 bytes == 5 then Some BadNumber
    else if nat_le (length bytes) (going_on 5 bytes) then Some Short
    else if slice_index bytes (going_on 5 bytes) == 0 && nat_lt 0 (going_on 5 bytes) then Some BadNumber
    else if nat_le (2 ^ 32) (number_value bytes) then Some BadNumber
    else None

-- the first fault of the number at the front as a count that is at least `least`
unfoldable pub count_fault : ℕ → List ℕ → Option GroupError
count_fault least bytes =
    option_or (number_fault bytes)
    (if nat_lt (number_value bytes) least then Some BadNumber
    else if nat_lt (2 ^ 28) (number_value bytes) then Some (TooLong (number_value bytes))
    else None)

-- ---- integers of one to four bytes

-- the least count of bytes that hold a word
abbrev pub byte_count : ℕ → ℕ
byte_count x = if nat_lt x (2 ^ 8) then 1 else if nat_lt x (2 ^ 16) then 2 else if nat_lt x (2 ^ 24) then 3 else 4

-- number m of some that have `len` bytes each, the lowest byte first
unfoldable pub short_at : ℕ → List ℕ → ℕ → ℕ
short_at len bytes m = joined 8 (λ i. slice_index bytes (len * m + i)) len

-- the greatest of the first `count` numbers
abbrev pub greatest : (ℕ → ℕ) → ℕ → ℕ
greatest number zero = 0
greatest number (suc count) = max (greatest number count) (number count)
