-- No part is above that of a count that is not less, in the first class.
use Rattle.std.proofs.Common.{◌≡◌, ℕ, zero, suc, ◌+◌, ◌-◌, ◌*◌, ◌/◌, ◌%◌, ◌<◌, ◌≤◌, min, List, length, get_or, ap, arith}
use Rattle.bitpack_ranked.specs.Scores.{IsTable, part_at}
use Rattle.bitpack_ranked.specs.inner.Walks.{greatest_part}

module _ (table : List ℕ) (is : IsTable table) where
  climb : (i k : ℕ) → i + 256 * k < length table → get_or table i 0 ≤ get_or table (i + 256 * k) 0
  climb i zero lt = omega (arith, ap (λ n. get_or table n 0) (let e : i + 256 * 0 ≡ i = omega arith in e))
  climb i (suc k) lt =
      let before = climb i k (omega arith) in
      let step = is.rises (i + 256 * k) (omega arith) in
      let same : i + 256 * k + 256 ≡ i + 256 * suc k = omega arith in
      omega (arith, before, step, ap (λ n. get_or table n 0) same)

  rows : ℕ
  rows = length table / 256

  module _ (row most class : ℕ) (le : row ≤ most) (few : class ≤ 255) (within : 256 * most + 255 < length table) where
    up : get_or table (256 * row + class) 0 ≤ get_or table (256 * most + class) 0
    up =
        let same : 256 * row + class + 256 * (most - row) ≡ 256 * most + class = omega arith in
        omega (arith, climb (256 * row + class) (most - row) (omega arith), ap (λ n. get_or table n 0) same)

    pub row_most : get_or table (256 * row + class) 0 ≤ get_or table (256 * most) 0
    row_most =
        let same : 256 * most + class - (256 * most + class) % 256 ≡ 256 * most = omega arith in
        omega (arith, up, is.first (256 * most + class) (omega arith), ap (λ n. get_or table n 0) same)

  pub part_most : (count most class : ℕ) → count ≤ most → part_at table count class ≤ part_at table most 0
  part_most count most class le =
      let n : ℕ = length table / 256 in
      let all : 256 * n ≡ length table = omega (arith, is.whole) in
      let some : 1 ≤ n = omega (arith, is.some) in
      let step = row_most (min count (n - 1)) (min most (n - 1)) (min class 255) (omega arith) (omega arith) (omega arith) in
      let same : 256 * min most (n - 1) + min 0 255 ≡ 256 * min most (n - 1) = omega arith in
      omega (arith, step, ap (λ n. get_or table n 0) same)

  pub part_rises : (count most class : ℕ) → count ≤ most → part_at table count class ≤ part_at table most class
  part_rises count most class le =
      let n : ℕ = length table / 256 in
      let all : 256 * n ≡ length table = omega (arith, is.whole) in
      let some : 1 ≤ n = omega (arith, is.some) in
      up (min count (n - 1)) (min most (n - 1)) (min class 255) (omega arith) (omega arith) (omega arith)

  -- the first part of the last row is the greatest of all
  pub part_greatest : (count class : ℕ) → part_at table count class ≤ greatest_part table
  part_greatest count class =
      let n : ℕ = length table / 256 in
      let all : 256 * n ≡ length table = omega (arith, is.whole) in
      let some : 1 ≤ n = omega (arith, is.some) in
      let step = row_most (min count (n - 1)) (n - 1) (min class 255) (omega arith) (omega arith) (omega arith) in
      let at : 256 * (n - 1) ≡ length table - 256 = omega arith in
      omega (arith, step, ap (λ m. get_or table m 0) at)
