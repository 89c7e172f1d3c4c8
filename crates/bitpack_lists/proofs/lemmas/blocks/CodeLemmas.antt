-- Values from codes and codes from values, one after the other.
-- Serves blocks, opened.
use Rattle.std.proofs.Common.{◌≡◌, ℕ, ◌+◌, ◌%◌, ◌^◌, List, [], ◌∷◌, Some, refl, ◌∙◌, ap, arith}
use Rattle.bitpacking.specs.declared.kind.Kind.TheVariants.{Sorted, StrictlySorted}
use Rattle.bitpacking.specs.Codes.{values_of}
use Rattle.bitpack_lists.specs.inner.CodeSteps.{sums}

pub sums-sorted : (t u : ℕ) (xs : List ℕ) → t % 2 ^ 32 ≡ u % 2 ^ 32 → sums t 0 xs ≡ values_of (Sorted u) xs
sums-sorted t u [] e = refl
sums-sorted t u (x ∷ xs) e =
    let head : (t + x + 0) % 2 ^ 32 ≡ (u + x) % 2 ^ 32 = omega arith in
    ap (λ v. v ∷ sums ((t + x + 0) % 2 ^ 32) 0 xs) head
    ∙ ap (λ vs. ((u + x) % 2 ^ 32) ∷ vs) (sums-sorted ((t + x + 0) % 2 ^ 32) (u + x) xs (omega arith))

pub sums-strict : (t u : ℕ) (xs : List ℕ) → t % 2 ^ 32 ≡ u % 2 ^ 32 → sums t 1 xs ≡ values_of (StrictlySorted (Some u)) xs
sums-strict t u [] e = refl
sums-strict t u (x ∷ xs) e =
    let head : (t + x + 1) % 2 ^ 32 ≡ (u + (x + 1) % 2 ^ 32) % 2 ^ 32 = omega arith in
    ap (λ v. v ∷ sums ((t + x + 1) % 2 ^ 32) 1 xs) head
    ∙ ap (λ vs. ((u + (x + 1) % 2 ^ 32) % 2 ^ 32) ∷ vs) (sums-strict ((t + x + 1) % 2 ^ 32) (u + (x + 1) % 2 ^ 32) xs (omega arith))

-- ---- values go on from the last one
