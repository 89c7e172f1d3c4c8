-- Lengths of chains: values that are not as many as the widths have blocks, and the bytes of the blocks so far.
use Rattle.std.proofs.Common.{◌≡◌, ◌≢◌, ℕ, ◌+◌, ◌*◌, ◌/◌, ◌%◌, ◌<◌, ◌≤◌, List, length, take, get_or, sum, sym, arith}
use Rattle.std.proofs.lemmas.List.Sums.{sum_by_more, sum_by_more_le}
use Rattle.std.proofs.lemmas.Nat.{mul-le}
use Rattle.std.proofs.Math.Nat.{mul-div_cancel_left, mul-mod_right, lt-div-mul-add}
use Rattle.bitpacking.specs.Layout.{size}

-- Lengths that are not those of so many blocks.
module _ (lanes len values widths : ℕ) (some : 1 ≤ lanes) (block_len : len ≡ 32 * lanes) where
  pub left_over : values % len ≢ 0 → values ≢ 32 * lanes * widths
  left_over h e = h (rw (e, block_len) (mul-mod_right (32 * lanes) widths))

  pub other_count : values / len ≢ widths → values ≢ 32 * lanes * widths
  other_count h e = h (rw (e, block_len) (mul-div_cancel_left widths (omega arith)))

  pub too_few : values / len < widths → values < 32 * lanes * widths
  too_few h =
      let below : values < values / len * len + len = lt-div-mul-add (omega arith) in
      let more : (values / len + 1) * len ≤ widths * len = mul-le (values / len + 1) len widths len (omega arith) (omega arith) in
      rw (sym block_len) (omega arith)

-- The bytes of the blocks before block i, and those of block i.
sizes_more : (lanes i : ℕ) (widths : List ℕ) → i < length widths
    → 4 * lanes * sum (take (i + 1) widths) ≡ 4 * lanes * sum (take i widths) + 4 * lanes * get_or widths i 0
sizes_more lanes i widths lt = rw (sum_by_more (λ (n : ℕ). n) widths i 0 lt) (omega arith)

-- They are some of the bytes of the chain.
sizes_within : (lanes i : ℕ) (widths : List ℕ) → i < length widths
    → 4 * lanes * sum (take i widths) + 4 * lanes * get_or widths i 0 ≤ 4 * lanes * sum widths
sizes_within lanes i widths lt =
    omega (arith, mul-le (4 * lanes) _ (4 * lanes) _ (omega arith) (sum_by_more_le (λ (n : ℕ). n) widths i 0 lt))

-- The bytes that are left after the first blocks are those of the next one and what is left after it.
pub one_block_more : (lanes i left bytes size_of : ℕ) (widths : List ℕ) → i < length widths → size_of ≡ size lanes (get_or widths i 0)
    → left + 4 * lanes * sum (take i widths) ≡ bytes
    → (4 * lanes * sum (take (i + 1) widths) + left ≡ bytes + size_of)
    × (4 * lanes * sum (take (i + 1) widths) ≤ 4 * lanes * sum widths)
one_block_more lanes i left bytes size_of widths lt e before =
    (omega (arith, sizes_more lanes i widths lt), omega (arith, sizes_more lanes i widths lt, sizes_within lanes i widths lt))
