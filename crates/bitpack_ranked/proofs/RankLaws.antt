-- The ids before the rank of a number are below it, and those from there on are not.
use Rattle.std.proofs.Common.{◌≡◌, ℕ, zero, suc, ◌+◌, ◌<◌, ◌≤◌, List, [], ◌∷◌, length, get_or, refl, ap, inl, inr, arith}
use Rattle.std.specs.List.Sorted.{IsStrictlyIncreasing}
use Rattle.std.proofs.lemmas.Bool.{cases_lt, le-ltb, lt-ltb}
use Rattle.bitpack_slices.specs.Reads.{rank}
use Rattle.bitpack_slices.specs.Bodies.{IsRising}

-- each of rising numbers is at least the first bound
pub from_low : (low high : ℕ) (xs : List ℕ) → IsRising low high xs → (k : ℕ) → k < length xs → low ≤ get_or xs k 0
from_low low high [] rising k lt = absurd (omega arith)
from_low low high (x ∷ xs) rising zero lt = rising.0
from_low low high (x ∷ xs) rising (suc k) lt = omega (arith, rising.0, from_low (x + 1) high xs rising.1 k (omega arith))

pub rising-increasing : (low high : ℕ) (xs : List ℕ) → IsRising low high xs → IsStrictlyIncreasing xs
rising-increasing low high [] rising k lt = absurd (omega arith)
rising-increasing low high (x ∷ xs) rising zero lt = omega (arith, from_low (x + 1) high xs rising.1 0 (omega arith))
rising-increasing low high (x ∷ xs) rising (suc k) lt =
    let next : suc k + 1 ≡ suc (k + 1) = omega arith in
    omega (arith, rising-increasing (x + 1) high xs rising.1 k (omega arith), ap (λ n. get_or (x ∷ xs) n 0) next)

pub rank-le : (x : ℕ) (xs : List ℕ) → rank x xs ≤ length xs
rank-le x [] = omega arith
rank-le x (y ∷ xs) = elim (cases_lt y x) [
  | inl below ↦ rw (lt-ltb y x below) (omega (arith, rank-le x xs))
  | inr above ↦ rw (le-ltb y x above) (omega (arith, rank-le x xs))
]

-- numbers that are all at least x have rank 0
rank-none : (x : ℕ) (xs : List ℕ) → ((k : ℕ) → k < length xs → x ≤ get_or xs k 0) → rank x xs ≡ 0
rank-none x [] all = refl
rank-none x (y ∷ xs) all = rw (le-ltb y x (all 0 (omega arith))) (omega (arith, rank-none x xs (λ k lt. all (suc k) (omega arith))))

rank-above : (high x y : ℕ) (xs : List ℕ) → IsRising (y + 1) high xs → x ≤ y → rank x (y ∷ xs) ≡ 0
rank-above high x y xs rising above =
    rank-none x (y ∷ xs) (λ k lt. omega (arith, above, from_low y high (y ∷ xs) (omega arith, rising) k lt))

pub before_rank : (low high x : ℕ) (xs : List ℕ) → IsRising low high xs → (k : ℕ) → k < rank x xs → get_or xs k 0 < x
before_rank low high x [] rising k lt = absurd (omega arith)
before_rank low high x (y ∷ xs) rising zero lt = elim (cases_lt y x) [
  | inl below ↦ below
  | inr above ↦ absurd (omega (arith, rank-above high x y xs rising.1 above, lt))
]
before_rank low high x (y ∷ xs) rising (suc k) lt = elim (cases_lt y x) [
  | inl below ↦ before_rank (y + 1) high x xs rising.1 k (omega (arith, rw (lt-ltb y x below) at lt))
  | inr above ↦ absurd (omega (arith, rank-above high x y xs rising.1 above, lt))
]

pub from_rank : (low high x : ℕ) (xs : List ℕ) → IsRising low high xs → (k : ℕ) → rank x xs ≤ k → k < length xs → x ≤ get_or xs k 0
from_rank low high x [] rising k from lt = absurd (omega arith)
from_rank low high x (y ∷ xs) rising zero from lt = elim (cases_lt y x) [
  | inl below ↦ absurd (omega (arith, rw (lt-ltb y x below) at from))
  | inr above ↦ above
]
from_rank low high x (y ∷ xs) rising (suc k) from lt = elim (cases_lt y x) [
  | inl below ↦ from_rank (y + 1) high x xs rising.1 k (omega (arith, rw (lt-ltb y x below) at from)) (omega arith)
  | inr above ↦ omega (arith, above, from_low (y + 1) high xs rising.1 k (omega arith))
]
