-- The words at the front of a list of bytes.
use Rattle.bitpacking.proofs.LaneEquations.{lane_word}
use Rattle.std.proofs.lemmas.Nat.{mul-le}
use Rattle.bitpacking.specs.Words.{joined, word}
use Rattle.bitpacking.specs.Bits.{AreBytes}
use Rattle.std.proofs.Common.{◌≡◌, ℕ, ◌+◌, ◌*◌, ◌<◌, ◌≤◌, List, length, get_or, take, ⊎_elim, arith}
use Rattle.std.proofs.lemmas.List.{length-take, get_or-take, get_or_past}
use Rattle.std.proofs.lemmas.Bool.{cases_lt}
use Rattle.bitpacking.proofs.Digits.{joined-same}

-- The words of the front of a list.
pub word-take : (bytes : List ℕ) (n q : ℕ) → 4 * q + 4 ≤ n → word (take n bytes) q ≡ word bytes q
unfolding word
word-take bytes n q le =
    joined-same 8 (λ m. get_or (take n bytes) (4 * q + m) 0) (λ m. get_or bytes (4 * q + m) 0) 4
    (λ m lt. get_or-take n bytes (4 * q + m) 0 (omega arith))

pub AreBytes-take : (bytes : List ℕ) (n : ℕ) → AreBytes bytes → AreBytes (take n bytes)
AreBytes-take bytes n small k =
    ⊎_elim
    (λ (lt : k < n). rw (get_or-take n bytes k 0 lt) (small k))
    (λ (ge : n ≤ k).
    let len : length (take n bytes) ≤ n = simp length-take (omega arith) in
    rw (get_or_past (take n bytes) k 0 (omega arith)) (omega arith))
    (cases_lt k n)

-- A lane's words are in the bytes of the block alone.
pub joined-front : (lanes width : ℕ) (bytes : List ℕ) (lane : ℕ) → lane < lanes
    → joined 32 (lane_word lanes (take (4 * lanes * width) bytes) lane) width ≡ joined 32 (lane_word lanes bytes lane) width
joined-front lanes width bytes lane lt =
    joined-same 32 (lane_word lanes (take (4 * lanes * width) bytes) lane) (lane_word lanes bytes lane) width
    (λ q hq. word-take bytes (4 * lanes * width) (lanes * q + lane)
    (omega (arith, mul-le lanes (q + 1) lanes width (omega arith) (omega arith))))
