-- Two sets that are combined chunk by chunk: what is left of the answer, and what has the next key.
use Rattle.std.specs.Prelude.{◌≡◌, ℕ, ◌+◌, ◌-◌, ◌/◌, ◌%◌, ◌<◌, ◌≤◌, Bool, false}
use Rattle.bitpack_sets.specs.Chunks.{ids_from, lows_between, positions}
use Rattle.bitpack_slices.specs.Operations.{apply}
use Rattle.bitpack_slices.specs.Reads.{has}
use Rattle.bitpack_queries.specs.declared.pairing.Meeting.{Meeting}
use Rattle.bitpack_queries.specs.declared.pairing.Pair.{Pair}
use Rattle.bitpack_sets.specs.Pairs.{IsSpan}

-- an id is in the answer of what is left
unfoldable pub left : Pair → ℕ → Bool
left pair x = apply pair.operation (has x (ids_from pair.a pair.i)) (has x (ids_from pair.b pair.j))

-- how many chunks, or ids of an array, are left of both
abbrev pub positions_left : Pair → ℕ
positions_left pair = (positions pair.a - pair.i) + (positions pair.b - pair.j)

-- the ids of a key that is one of a u32, in both sets
pub record IsMeeting (pair : Pair) (meeting : Meeting) : Type 0 where
  pub small : meeting.key < 65536
  pub a_span : IsSpan pair.a meeting.key meeting.a.0 meeting.a.1
  pub b_span : IsSpan pair.b meeting.key meeting.b.0 meeting.b.1

-- whether the answer has an id of the key, by its low 16 bits
abbrev pub meets : Pair → Meeting → ℕ → Bool
meets pair meeting low =
    apply pair.operation (has low (lows_between pair.a meeting.a.0 meeting.a.1)) (has low (lows_between pair.b meeting.b.0 meeting.b.1))

-- a key of an answer: what has a lower key is not in it, what has its key is told by its low 16 bits, and what is higher comes after it
pub record IsPart (key : ℕ) (test before after : ℕ → Bool) : Type 0 where
  pub small : key < 65536
  pub lower : (x : ℕ) → x / 65536 < key → before x ≡ false
  pub own : (x : ℕ) → x / 65536 ≡ key → before x ≡ test (x % 65536)
  pub passed : (x : ℕ) → x / 65536 ≤ key → after x ≡ false
  pub higher : (x : ℕ) → key < x / 65536 → before x ≡ after x
