-- Lists of bytes, and their parts.
use Rattle.std.proofs.Common.{ℕ, zero, suc, ◌+◌, ◌^◌, ◌<◌, List, [], ◌∷◌, ◌++◌, drop, arith}
use Rattle.std.proofs.lemmas.List.{get_or-drop}
use Rattle.bitpacking.specs.Bits.{AreBytes}

pub AreBytes-drop : (n : ℕ) (bytes : List ℕ) → AreBytes bytes → AreBytes (drop n bytes)
AreBytes-drop n bytes small k = rw get_or-drop (small (n + k))

pub AreBytes-nil : AreBytes []
AreBytes-nil k = omega arith

pub AreBytes-cons : (byte : ℕ) (bytes : List ℕ) → byte < 2 ^ 8 → AreBytes bytes → AreBytes (byte ∷ bytes)
AreBytes-cons byte bytes lt small zero = lt
AreBytes-cons byte bytes lt small (suc k) = small k

pub AreBytes-append : (xs ys : List ℕ) → AreBytes xs → AreBytes ys → AreBytes (xs ++ ys)
AreBytes-append [] ys small small' = small'
AreBytes-append (x ∷ xs) ys small small' = AreBytes-cons x (xs ++ ys) (small 0) (AreBytes-append xs ys (λ k. small (suc k)) small')
