-- One code of the body of a block, by the words that have its bits.
use Rattle.std.proofs.Common.{◌≡◌, ℕ, zero, suc, min, ◌+◌, ◌-◌, ◌*◌, ◌/◌, ◌%◌, ◌^◌, ◌<◌, ◌≤◌, List, length, get_or, bit_and, bit_or, refl, sym, ◌∙◌, ap, arith, inl, inr}
use Rattle.std.specs.Int.{bit_at}
use Rattle.std.proofs.lemmas.Bool.{cases_lt}
use Rattle.std.proofs.lemmas.List.FromFn.{get_or-map-range_with_len}
use Rattle.std.proofs.lemmas.Nat.{and_mask, mod_below, mul-add-lt, one_shl, or_shifted, pow_pos, shr-shr, shr_split}
use Rattle.std.proofs.lemmas.Nat.Bits.{bit_at_cat_high, bit_at_cat_low, same_from_bits_below}
use Rattle.bitpacking.specs.Bits.{AreBytes, bit_of}
use Rattle.bitpacking.specs.Layout.{codes_of, place}
use Rattle.bitpacking.specs.Words.{joined, word}
use Rattle.bitpacking.proofs.ForCallers.{one_layout_codes}

-- ---- a word

pub word_is : (bytes : List ℕ) (q : ℕ) → word bytes q
    ≡ get_or bytes (4 * q + 3) 0 * 2 ^ 24 + (get_or bytes (4 * q + 2) 0 * 2 ^ 16 + (get_or bytes (4 * q + 1) 0 * 2 ^ 8 + get_or bytes (4 * q) 0))
unfolding word joined
word_is bytes q =
    let here : 4 * q + 0 ≡ 4 * q = omega arith in
    let first = ap (λ n. get_or bytes n 0) here in
    omega arith

module _ (bytes : List ℕ) (small : AreBytes bytes) (q : ℕ) where
  pub word_small : word bytes q < 2 ^ 32
  word_small =
      let a : get_or bytes (4 * q) 0 < 2 ^ 8 = small (4 * q) in
      let b : get_or bytes (4 * q + 1) 0 < 2 ^ 8 = small (4 * q + 1) in
      let c : get_or bytes (4 * q + 2) 0 < 2 ^ 8 = small (4 * q + 2) in
      let d : get_or bytes (4 * q + 3) 0 < 2 ^ 8 = small (4 * q + 3) in
      let e = word_is bytes q in
      omega arith

  -- the bits of its bytes follow each other
  bit_of_byte : (r m : ℕ) → 8 * m ≤ r → r < 8 * m + 8 → bit_of bytes (32 * q + r) ≡ bit_at (get_or bytes (4 * q + m) 0) (r - 8 * m)
  bit_of_byte r m low high =
      let row : (32 * q + r) / 8 ≡ 4 * q + m = omega arith in
      let column : (32 * q + r) % 8 ≡ r - 8 * m = omega arith in
      ap (λ n. bit_at (get_or bytes n 0) ((32 * q + r) % 8)) row ∙ ap (bit_at (get_or bytes (4 * q + m) 0)) column

  bit_low : (r : ℕ) → r < 16 → bit_at (get_or bytes (4 * q + 1) 0 * 2 ^ 8 + get_or bytes (4 * q) 0) r ≡ bit_of bytes (32 * q + r)
  bit_low r lt = elim (cases_lt r 8) [
    | inl first ↦
        let here : 4 * q + 0 ≡ 4 * q = omega arith in
        let same : r - 8 * 0 ≡ r = omega arith in
        bit_at_cat_low (get_or bytes (4 * q + 1) 0) 8 (get_or bytes (4 * q) 0) r first
        ∙ sym (bit_of_byte r 0 (omega arith) (omega arith) ∙ ap (λ n. bit_at (get_or bytes n 0) (r - 8 * 0)) here ∙ ap (bit_at (get_or bytes (4 * q) 0)) same)
    | inr later ↦
        bit_at_cat_high (get_or bytes (4 * q + 1) 0) 8 (get_or bytes (4 * q) 0) r (small (4 * q)) later
        ∙ sym (bit_of_byte r 1 (omega arith) (omega arith))
  ]

  pub bit_of-word : (r : ℕ) → r < 32 → bit_at (word bytes q) r ≡ bit_of bytes (32 * q + r)
  bit_of-word r lt =
      let a : get_or bytes (4 * q) 0 < 2 ^ 8 = small (4 * q) in
      let b : get_or bytes (4 * q + 1) 0 < 2 ^ 8 = small (4 * q + 1) in
      let c : get_or bytes (4 * q + 2) 0 < 2 ^ 8 = small (4 * q + 2) in
      let low : ℕ = get_or bytes (4 * q + 1) 0 * 2 ^ 8 + get_or bytes (4 * q) 0 in
      let three : ℕ = get_or bytes (4 * q + 2) 0 * 2 ^ 16 + low in
      ap (λ n. bit_at n r) (word_is bytes q)
      ∙ elim (cases_lt r 24) [
        | inl below ↦
            bit_at_cat_low (get_or bytes (4 * q + 3) 0) 24 three r below
            ∙ elim (cases_lt r 16) [
              | inl lower ↦ bit_at_cat_low (get_or bytes (4 * q + 2) 0) 16 low r lower ∙ bit_low r lower
              | inr third ↦ bit_at_cat_high (get_or bytes (4 * q + 2) 0) 16 low r (omega arith) third ∙ sym (bit_of_byte r 2 (omega arith) (omega arith))
            ]
        | inr last ↦ bit_at_cat_high (get_or bytes (4 * q + 3) 0) 24 three r (omega arith) last ∙ sym (bit_of_byte r 3 (omega arith) (omega arith))
      ]

-- ---- some bits of a number

pub bit_at-part : (n from width j : ℕ) → j < width → bit_at (n / 2 ^ from % 2 ^ width) j ≡ bit_at n (from + j)
bit_at-part n from width j lt =
    let x : ℕ = n / 2 ^ from in
    sym (bit_at_cat_low (x / 2 ^ width) width (x % 2 ^ width) j lt) ∙ ap (λ y. bit_at y j) (shr_split x width) ∙ ap (λ y. y % 2) (shr-shr n from j)

-- ---- a code

place_is : (width k j : ℕ) → place 4 width k j ≡ 32 * (4 * ((k / 4 * width + j) / 32) + k % 4) + (k / 4 * width + j) % 32
unfolding place
place_is width k j = refl

pub no_code : (width : ℕ) (body : List ℕ) (k : ℕ) → width ≡ 0 → k < 128 → 0 ≡ get_or (codes_of 4 width body) k 0
unfolding codes_of joined
no_code zero body k none lt = sym (get_or-map-range_with_len (λ k. joined 1 (λ j. bit_of body (place 4 0 k j)) 0) 0 128 k k 0 lt (omega arith))
no_code (suc width) body k none lt = absurd (omega arith)

module _ (width k : ℕ) (body : List ℕ) (small : AreBytes body) (narrow : width ≤ 32) (long : length body ≡ 16 * width) (lt : k < 128) (next : ℕ)
    (after : next ≡ min (k / 4 * width / 32 + 1) (width - 1)) where
  abbrev bit : ℕ
  bit = k / 4 * width

  abbrev low : ℕ
  low = word body (4 * (bit / 32) + k % 4)

  abbrev high : ℕ
  high = word body (4 * next + k % 4)

  bit_below : (j : ℕ) → j < width → bit + j < 32 * width
  bit_below j inside = let e = mul-add-lt (k / 4) width j 32 (omega arith) inside in omega arith

  bits : (j : ℕ) → j < width → bit_at (high * 2 ^ 32 + low) (bit % 32 + j) ≡ bit_of body (place 4 width k j)
  bits j inside = elim (cases_lt (bit % 32 + j) 32) [
    | inl here ↦
        let row : (bit + j) / 32 ≡ bit / 32 = omega arith in
        let column : (bit + j) % 32 ≡ bit % 32 + j = omega arith in
        bit_at_cat_low high 32 low (bit % 32 + j) here ∙ bit_of-word body small (4 * (bit / 32) + k % 4) (bit % 32 + j) here
        ∙ sym (ap (bit_of body) (place_is width k j ∙ ap (λ n. 32 * (4 * n + k % 4) + (bit + j) % 32) row ∙ ap (λ n. 32 * (4 * (bit / 32) + k % 4) + n) column))
    | inr later ↦
        let within = bit_below j inside in
        let row : (bit + j) / 32 ≡ next = omega arith in
        let column : (bit + j) % 32 ≡ bit % 32 + j - 32 = omega arith in
        bit_at_cat_high high 32 low (bit % 32 + j) (word_small body small (4 * (bit / 32) + k % 4)) later
        ∙ bit_of-word body small (4 * next + k % 4) (bit % 32 + j - 32) (omega arith)
        ∙ sym (ap (bit_of body) (place_is width k j ∙ ap (λ n. 32 * (4 * n + k % 4) + (bit + j) % 32) row ∙ ap (λ n. 32 * (4 * next + k % 4) + n) column))
  ]

  pub code_by_words : bit_and (bit_or (high * 2 ^ 32 % 2 ^ 64) low / 2 ^ (bit % 32)) (1 * 2 ^ width % 2 ^ 64 - 1) ≡ get_or (codes_of 4 width body) k 0
  code_by_words =
      let layout = (one_layout_codes 4 width body long).0 in
      let upper : high * 2 ^ 32 % 2 ^ 64 ≡ high * 2 ^ 32 = let e = word_small body small (4 * next + k % 4) in omega arith in
      let whole : ℕ = high * 2 ^ 32 + low in
      let both : bit_or (high * 2 ^ 32 % 2 ^ 64) low ≡ whole =
      ap (λ n. bit_or n low) upper ∙ or_shifted high 32 low (word_small body small (4 * (bit / 32) + k % 4)) in
      let code : ℕ = get_or (codes_of 4 width body) k 0 in
      let fits : code < 2 ^ width = layout.fits k 0 (omega (arith, layout.code_count)) in
      let part : ℕ = whole / 2 ^ (bit % 32) % 2 ^ width in
      ap (λ n. bit_and (n / 2 ^ (bit % 32)) (1 * 2 ^ width % 2 ^ 64 - 1)) both
      ∙ ap (λ n. bit_and (whole / 2 ^ (bit % 32)) (n - 1)) (one_shl width 64 (omega arith))
      ∙ and_mask (whole / 2 ^ (bit % 32)) width
      ∙ same_from_bits_below width part code (mod_below (whole / 2 ^ (bit % 32)) (2 ^ width) (pow_pos width)) fits
      (λ j inside. bit_at-part whole (bit % 32) width j inside ∙ bits j inside ∙ sym (layout.bits k j (omega arith) inside))
