-- The values that codes add up to, one after the other.
-- Serves opened.
use Rattle.std.proofs.Common.{◌≡◌, ℕ, zero, suc, ◌+◌, ◌%◌, ◌^◌, ◌<◌, List, [], ◌∷◌, length, get_or, refl, arith}
use Rattle.bitpack_lists.specs.inner.CodeSteps.{sums}

-- Each value is the one before it with its code, and so much more.
pub sums-next : (before more : ℕ) (xs : List ℕ) (i : ℕ) → i < length xs
    → get_or (sums before more xs) i 0 ≡ (get_or (before ∷ sums before more xs) i 0 + get_or xs i 0 + more) % 2 ^ 32
sums-next before more [] i lt = absurd (omega arith)
sums-next before more (x ∷ xs) zero lt = refl
sums-next before more (x ∷ xs) (suc i) lt = sums-next ((before + x + more) % 2 ^ 32) more xs i (omega arith)
