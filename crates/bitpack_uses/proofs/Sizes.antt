-- The size of a chain whose widths come one by one.
use Rattle.std.proofs.Common.{◌≡◌, ◌⊎◌, inl, inr, ◌+◌, ◌-◌, ◌*◌, ◌/◌, ◌<◌, ◌≤◌, ℕ, List, length, take, get_or, sum, arith}
use Rattle.std.proofs.lemmas.List.Sums.{sum_by_more, sum_by_more_le}
use Rattle.std.proofs.lemmas.Nat.{mul-le}
use Rattle.std.proofs.Math.Nat.{div-lt_iff_lt-mul}

-- the bytes of the blocks before block i, and those of block i
pub sizes_more : (lanes i : ℕ) (widths : List ℕ) → i < length widths
    → 4 * lanes * sum (take (i + 1) widths) ≡ 4 * lanes * sum (take i widths) + 4 * lanes * get_or widths i 0
sizes_more lanes i widths lt = rw (sum_by_more (λ (n : ℕ). n) widths i 0 lt) (omega arith)

-- they are some of the bytes of the chain
pub sizes_within : (lanes i : ℕ) (widths : List ℕ) → i < length widths
    → 4 * lanes * sum (take i widths) + 4 * lanes * get_or widths i 0 ≤ 4 * lanes * sum widths
sizes_within lanes i widths lt =
    omega (arith, mul-le (4 * lanes) _ (4 * lanes) _ (omega arith) (sum_by_more_le (λ (n : ℕ). n) widths i 0 lt))

pub size_below : (lanes width : ℕ) → lanes ≤ 8 → width ≤ 32 → 4 * lanes * width ≤ 1024
size_below lanes width few narrow = omega (arith, mul-le lanes width 8 32 few narrow)

pub room_for : (lanes count blocks : ℕ) → 1 ≤ lanes → count / (32 * lanes) < blocks → count < 32 * lanes * blocks
room_for lanes count blocks some lt = omega (arith, (div-lt_iff_lt-mul {k = 32 * lanes} (omega arith)).0 lt)

-- what is saved where the strict width is the sorted one or one less
pub saved : (width strict : ℕ) → (strict ≡ width) ⊎ (strict + 1 ≡ width) → (strict ≤ width) × (width - strict ≤ 1)
saved width strict (inl same) = (omega arith, omega arith)
saved width strict (inr less) = (omega arith, omega arith)
