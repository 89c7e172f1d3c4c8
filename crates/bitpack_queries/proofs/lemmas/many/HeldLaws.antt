-- The keys that are held of sets.
use Rattle.std.proofs.Common.{◌≡◌, ℕ, zero, suc, ◌≤◌, List, get_or, replicate, refl, arith}
use Rattle.bitpack_queries.specs.Folds.{AreHeld}

zero_held : (n i : ℕ) → ◌≡◌ {A = ℕ} (get_or (replicate n 0) i 0) 0
zero_held zero i = refl
zero_held (suc n) zero = refl
zero_held (suc n) (suc i) = zero_held n i

-- none at first
pub none_held : (n base : ℕ) (sets : List (List ℕ)) → AreHeld (replicate n 0) base sets
none_held n base sets i x least below = absurd (let none = zero_held n i in omega arith)

-- those of a later key
pub later_held : (held : List ℕ) (base next : ℕ) (sets : List (List ℕ)) → base ≤ next → AreHeld held base sets → AreHeld held next sets
later_held held base next sets later are i x least below = are i x (omega arith) below
