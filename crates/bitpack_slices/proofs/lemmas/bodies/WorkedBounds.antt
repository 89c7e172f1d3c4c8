-- Boundaries worked by hand.
use Rattle.std.proofs.Common.{◌≡◌, ℕ, zero, suc, ◌+◌, Bool, List, [], ◌∷◌, cond, refl, ap, ◌∙◌, arith, eq-eqb}
use Rattle.std.specs.List.{range_with_len}
use Rattle.bitpack_slices.specs.Runs.{boundaries, bounds_after}

-- one number, and the last one, which has none after it
pub one : boundaries (7 ∷ []) ≡ 7 ∷ 8 ∷ []
unfolding bounds_after boundaries
one = refl

pub last : boundaries (65535 ∷ []) ≡ 65535 ∷ []
unfolding bounds_after boundaries
last = refl

pub some : boundaries (3 ∷ 4 ∷ 5 ∷ 9 ∷ []) ≡ 3 ∷ 6 ∷ 9 ∷ 10 ∷ []
unfolding bounds_after boundaries
some = refl

pub over_two_slices : boundaries (254 ∷ 255 ∷ 256 ∷ 257 ∷ []) ≡ 254 ∷ 258 ∷ []
unfolding bounds_after boundaries
over_two_slices = refl

pub in_two_slices : boundaries (255 ∷ 257 ∷ 65535 ∷ []) ≡ 255 ∷ 256 ∷ 257 ∷ 258 ∷ 65535 ∷ []
unfolding bounds_after boundaries
in_two_slices = refl

-- all numbers
after_range : (x n : ℕ) → bounds_after x (range_with_len (x + 1) n) ≡ bounds_after (x + n) []
unfolding bounds_after
after_range x zero = let e : x ≡ x + zero = omega arith in ap (λ (y : ℕ). bounds_after y []) e
after_range x (suc n) =
    let e : x + 1 + n ≡ x + suc n = omega arith in
    ap (λ (b : Bool). cond b (bounds_after (x + 1) (range_with_len (x + 1 + 1) n)) ((x + 1) ∷ (x + 1) ∷ bounds_after (x + 1) (range_with_len (x + 1 + 1) n))) (eq-eqb (x + 1) (x + 1) refl)
    ∙ after_range (x + 1) n ∙ ap (λ (y : ℕ). bounds_after y []) e

pub all : boundaries (0 ∷ range_with_len 1 65535) ≡ 0 ∷ []
unfolding bounds_after boundaries
all = ap (λ (l : List ℕ). 0 ∷ l) (after_range 0 65535)
