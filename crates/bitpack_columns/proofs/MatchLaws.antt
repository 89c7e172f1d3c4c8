-- Eight lanes that are compared with both ends of a range, and the numbers of those that match.
use Rattle.std.proofs.Common.{◌≡◌, ℕ, zero, suc, ◌+◌, ◌-◌, ◌%◌, ◌^◌, ◌<◌, ◌≤◌, ◌&&◌, Bool, true, false, cond, eqb, List, [], ◌∷◌, length, get_or, map, replicate, take, drop, bit_and, w32, refl, subst, ◌∙◌, ap, arith}
use Rattle.std.specs.Prelude.{nat_le}
use mir.Val.{bits}
use Rattle.std.specs.Int.{bit_at}
use Rattle.std.specs.Simd.Lanes.{zip2, mask_l, top}
use Rattle.std.proofs.lemmas.List.{length-map}
use Rattle.std.proofs.lemmas.Simd.{bit_mask_l, get_or-chunk, length-chunk, map-map, mask_l-lt, mask_l-mod, zip2_of_maps, zip2_splat, zip2_splat_left}
use Rattle.bitpack_columns.specs.Ranges.{is_between}
use Rattle.bitpack_columns.specs.Searches.{ones_in}
use Rattle.bitpack_columns.proofs.RangeLaws.{passing, passing_agree}

-- all bits of a lane, or none
abbrev lane : Bool → ℕ
lane b = cond b (2 ^ bits w32 - 1) 0

both : (a b : Bool) → top 31 (bit_and (lane a) (lane b)) ≡ (a && b)
both true true = refl
both true false = refl
both false true = refl
both false false = refl

-- tests of the first numbers that agree
agree : (test other : ℕ → Bool) (n : ℕ) → ((k : ℕ) → k < n → test k ≡ other k) → passing test 0 n ≡ passing other 0 n
agree test other n same = passing_agree test other 0 n (λ k lt.
    let e : 0 + k ≡ k = omega arith in
    rw e (same k lt))

-- the lanes that match both comparisons
abbrev pub mask : List ℕ → ℕ → ℕ → ℕ
mask xs low high =
    let above = zip2 (λ a b. cond (nat_le a b) (2 ^ bits w32 - 1) 0) (replicate 8 low) xs in
    let below = zip2 (λ a b. cond (nat_le a b) (2 ^ bits w32 - 1) 0) xs (replicate 8 high) in
    mask_l (map (top 31) (zip2 bit_and above below)) % 2 ^ 64

module _ (xs : List ℕ) (low high : ℕ) (eight : length xs ≡ 8) where
  abbrev tests : List Bool
  tests = map (is_between low high) xs

  long : length tests ≡ 8
  long = length-map xs (is_between low high) ∙ eight

  mask_is : mask xs low high ≡ mask_l tests
  mask_is =
      ap (λ ys. mask_l (map (top 31) ys) % 2 ^ 64)
      (zip2_of_maps bit_and (λ x. lane (nat_le low x)) (λ x. lane (nat_le x high)) xs
      (zip2_splat_left (λ a b. lane (nat_le a b)) low 8 xs eight)
      (zip2_splat (λ a b. lane (nat_le a b)) xs 8 high eight))
      ∙ ap (λ bs. mask_l bs % 2 ^ 64) (map-map (top 31) (λ x. bit_and (lane (nat_le low x)) (lane (nat_le x high))) xs ∙ map_same xs)
      ∙ mask_l-mod tests 64 (omega (arith, long))
    where
      map_same : (ys : List ℕ) → map (λ x. top 31 (bit_and (lane (nat_le low x)) (lane (nat_le x high)))) ys ≡ map (is_between low high) ys
      map_same [] = refl
      map_same (y ∷ ys) = λ i. both (nat_le low y) (nat_le y high) i ∷ map_same ys i

  pub mask_small : mask xs low high < 2 ^ 8
  mask_small = rw mask_is (subst (λ n. mask_l tests < 2 ^ n) long (mask_l-lt tests))

  pub matches_are : ones_in (mask xs low high) ≡ passing (λ j. is_between low high (get_or xs j 0)) 0 8
  unfolding ones_in
  matches_are = agree (λ j. eqb (bit_at (mask xs low high) j) 1) (λ j. is_between low high (get_or xs j 0)) 8 (λ k lt.
      ap (λ m. eqb (bit_at m k) 1) mask_is ∙ ap (λ n. eqb n 1) (bit_mask_l tests k) ∙ one (get_or tests k false) ∙ test_at xs k (omega (arith, lt, eight)))
    where
      one : (b : Bool) → eqb (cond b 1 0) 1 ≡ b
      one true = refl
      one false = refl

      test_at : (ys : List ℕ) (k : ℕ) → k < length ys → get_or (map (is_between low high) ys) k false ≡ is_between low high (get_or ys k 0)
      test_at [] k lt = absurd (omega arith)
      test_at (y ∷ ys) zero lt = refl
      test_at (y ∷ ys) (suc k) lt = test_at ys k (omega arith)

-- of eight values from an index on
pub matches_from : (values : List ℕ) (at low high : ℕ) → at + 8 ≤ length values
    → ones_in (mask (take 8 (drop at values)) low high) ≡ passing (λ j. is_between low high (get_or values (at + j) 0)) 0 8
matches_from values at low high room =
    let xs : List ℕ = take 8 (drop at values) in
    matches_are xs low high (length-chunk at 8 values room)
    ∙ agree (λ j. is_between low high (get_or xs j 0)) (λ j. is_between low high (get_or values (at + j) 0)) 8 (λ k lt.
    ap (is_between low high) (get_or-chunk at 8 values k 0 lt))

pub small_from : (values : List ℕ) (at low high : ℕ) → at + 8 ≤ length values → mask (take 8 (drop at values)) low high < 2 ^ 8
small_from values at low high room = mask_small (take 8 (drop at values)) low high (length-chunk at 8 values room)
