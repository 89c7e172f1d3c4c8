-- What each byte is below.
use Rattle.std.proofs.Common.{ℕ, ◌<◌, List, [], ◌∷◌, zero, suc, get_or, arith}

-- ---- what the lemmas of this crate speak of

-- each is a byte
abbrev pub EachByte : List ℕ → Type 0
EachByte [] = Unit {0}
EachByte (byte ∷ bytes) = (byte < 256) × EachByte bytes

-- ---- the parts of an encoding are bytes

pub byte_of : (xs : List ℕ) → EachByte xs → (k : ℕ) → get_or xs k 0 < 256
byte_of [] h k = omega arith
byte_of (x ∷ xs) (a, h) zero = a
byte_of (x ∷ xs) (a, h) (suc k) = byte_of xs h k
