-- A set with a number added to each id.
use Rattle.std.specs.Prelude.{ℤ, pos, negsuc, ℕ, ◌+◌, ◌-◌, ◌*◌, ◌^◌, ◌&&◌, Bool, nat_le, List, length, min}
use Rattle.bitpack_slices.specs.Operations.{those}
use Rattle.bitpack_slices.specs.Reads.{has}

-- what an integer adds, and what it takes away
abbrev pub up_of : ℤ → ℕ
up_of (pos n) = n
up_of (negsuc n) = 0

abbrev pub down_of : ℤ → ℕ
down_of (pos n) = 0
down_of (negsuc n) = n + 1

-- a number is one of these, with `up` added and `down` taken away
abbrev pub has_moved : ℕ → ℕ → List ℕ → ℕ → Bool
has_moved up down ids x = nat_le up (x + down) && has (x + down - up) ids

-- the ids that these become
abbrev pub moved : ℕ → ℕ → List ℕ → List ℕ
moved up down ids = those (2 ^ 32) (has_moved up down ids)

-- how much work space they need
abbrev pub room_for : List ℕ → ℕ
room_for ids = 4 * min (length ids) 65536
