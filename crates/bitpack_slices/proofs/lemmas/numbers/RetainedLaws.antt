-- What is retained of the ids of an array.
use Rattle.std.proofs.Common.{◌≡◌, ◌≤◌, Bool, true, false, not, cond, refl, arith, ℕ, ◌+◌, List, [], ◌∷◌, ◌||◌}
use mathlib.Core.Bool.{beq}
use mir.Val.{bool_byte}
use Rattle.std.specs.List.{filter}
use Rattle.bitpack_slices.proofs.lemmas.bits.OnesLaws.{rising_lower}
use Rattle.bitpack_slices.specs.Bodies.{IsRising}
use Rattle.std.proofs.lemmas.Bool.{true≢false}

pub known : (there b : Bool) → beq b there ≡ cond there b (not b)
known true true = refl
known true false = refl
known false true = refl
known false false = refl

pub byte_small : (b : Bool) → bool_byte b ≤ 1
byte_small true = omega arith
byte_small false = omega arith

-- ---- the ids of an array united with a set: what is done, what is left of the array, and what is left of the set

pub rising_choice : (t : Bool) (low high x : ℕ) (xs : List ℕ) → low ≤ x → IsRising (x + 1) high xs → IsRising low high (cond t (x ∷ xs) xs)
rising_choice true low high x xs h r = (h, r)
rising_choice false low high x xs h r = rising_lower (x + 1) low high xs (omega arith) r

pub rising_filter : (test : ℕ → Bool) (low high : ℕ) (xs : List ℕ) → IsRising low high xs → IsRising low high (filter test xs)
rising_filter test low high [] r = r
rising_filter test low high (x ∷ xs) (a, r) = rising_choice (test x) low high x (filter test xs) a (rising_filter test (x + 1) high xs r)

-- ---- what it says of the directory and the bodies of a set in chunks that they have no fault

-- ---- tests

pub neither : (a b : Bool) → (a || b) ≡ false → (a ≡ false) × (b ≡ false)
neither true b e = absurd (true≢false e)
neither false b e = (refl, e)
