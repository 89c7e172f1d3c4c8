-- The bytes of a block are the one layout of its codes.
use Rattle.std.proofs.Common.{◌≡◌, ℕ, zero, suc, ◌+◌, ◌-◌, ◌*◌, ◌/◌, ◌%◌, ◌^◌, ◌<◌, List, length, get_or, sym, ap, ◌∙◌, arith, inl, inr, pow_pos, pow-add}
use Rattle.std.specs.Int.{bit_at}
use Rattle.std.proofs.lemmas.Bool.{cases_lt}
use Rattle.std.proofs.lemmas.List.{get_or_past}
use Rattle.std.proofs.lemmas.List.FromFn.{get_or-map-range_with_len, length-map-range_with_len}
use Rattle.std.proofs.lemmas.Nat.{div-mul-add, mod-mul-add, mul-add-lt}
use Rattle.std.proofs.lemmas.Nat.Bits.{bit_at-lt, bit_at_cat_high, bit_at_cat_low}
use Rattle.bitpacking.proofs.ForCallers.{one_layout_bytes, one_layout_codes}
use Rattle.bitpacking.specs.Bits.{AreBytes, bit_of}
use Rattle.bitpacking.specs.Layout.{Layout, codes_of, place}
use Rattle.bitpacking.specs.Width.{Fits}
use Rattle.bitpacking.specs.Words.{joined}
use Rattle.bitpack_columns.specs.Columns.{body_bit, packed_block}

-- ---- numbers of bits

joined_small : (f : ℕ → ℕ) (n : ℕ) → ((i : ℕ) → f i < 2) → joined 1 f n < 2 ^ n
unfolding joined
joined_small f zero h = pow_pos 0
joined_small f (suc n) h =
    let top = h n in
    let rest : joined 1 f n < 2 ^ n = joined_small f n h in
    let e : 1 * n ≡ n = omega arith in
    let more : 2 ^ suc n ≡ 2 ^ n * 2 = (let s : suc n ≡ n + 1 = omega arith in ap (λ (k : ℕ). 2 ^ k) s ∙ pow-add 2 n 1) in
    rw (e, more) (below (f n) (2 ^ n) (joined 1 f n) top rest)
  where
    below : (a p r : ℕ) → a < 2 → r < p → a * p + r < p * 2
    below zero p r h k = omega arith
    below (suc zero) p r h k = omega arith
    below (suc (suc a)) p r h k = absurd (omega arith)

joined_bit : (f : ℕ → ℕ) (n m : ℕ) → ((i : ℕ) → f i < 2) → m < n → bit_at (joined 1 f n) m ≡ f m
unfolding joined
joined_bit f zero m h lt = absurd (omega arith)
joined_bit f (suc n) m h lt =
    let e : 1 * n ≡ n = omega arith in
    ap (λ (k : ℕ). bit_at (f n * 2 ^ k + joined 1 f n) m) e
    ∙ (elim (cases_lt m n) [
      | inl less ↦ bit_at_cat_low (f n) n (joined 1 f n) m less ∙ joined_bit f n m h less
      | inr more ↦
          let same : m ≡ n = omega arith in
          let none : m - n ≡ 0 = omega arith in
          let bit = h n in
          let one : bit_at (f n) 0 ≡ f n = omega arith in
          bit_at_cat_high (f n) n (joined 1 f n) m (joined_small f n h) more ∙ ap (bit_at (f n)) none ∙ one ∙ ap f (sym same)
    ])

-- ---- the bits of a block

bit_at_place : (width k j : ℕ) (codes : List ℕ) → j < width → body_bit width codes (place 4 width k j) ≡ bit_at (get_or codes k 0) j
unfolding place
bit_at_place width k j codes h =
    let q : ℕ = k / 4 * width + j in
    let t : ℕ = 32 * (4 * (q / 32) + k % 4) + q % 32 in
    let row : 32 * (t / 128) + t % 32 ≡ q = omega arith in
    let lane : t / 32 % 4 ≡ k % 4 = omega arith in
    let whole : 4 * (k / 4) + k % 4 ≡ k = omega arith in
    ap (λ (p : ℕ). bit_at (get_or codes (4 * (p / width) + t / 32 % 4) 0) (p % width)) row
    ∙ ap (λ (n : ℕ). bit_at (get_or codes (4 * n + t / 32 % 4) 0) (q % width)) (div-mul-add (k / 4) width j h)
    ∙ ap (λ (n : ℕ). bit_at (get_or codes (4 * (k / 4) + n) 0) (q % width)) lane
    ∙ ap (λ (n : ℕ). bit_at (get_or codes n 0) (q % width)) whole
    ∙ ap (bit_at (get_or codes k 0)) (mod-mul-add (k / 4) width j h)

body_bit-lt : (width : ℕ) (codes : List ℕ) (t : ℕ) → body_bit width codes t < 2
body_bit-lt width codes t =
    let p : ℕ = 32 * (t / 128) + t % 32 in
    bit_at-lt (get_or codes (4 * (p / width) + t / 32 % 4) 0) (p % width)

-- byte i
abbrev byte_at : ℕ → List ℕ → ℕ → ℕ
byte_at width codes i = joined 1 (λ j. body_bit width codes (8 * i + j)) 8

packed_bit : (width : ℕ) (codes : List ℕ) (t : ℕ) → t < 128 * width → bit_of (packed_block width codes) t ≡ body_bit width codes t
unfolding packed_block
packed_bit width codes t h =
    let whole : 8 * (t / 8) + t % 8 ≡ t = omega arith in
    ap (λ (n : ℕ). bit_at n (t % 8)) (get_or-map-range_with_len (byte_at width codes) 0 (16 * width) (t / 8) (t / 8) 0 (omega arith) (omega arith))
    ∙ joined_bit (λ j. body_bit width codes (8 * (t / 8) + j)) 8 (t % 8) (λ i. body_bit-lt width codes (8 * (t / 8) + i)) (omega arith)
    ∙ ap (body_bit width codes) whole

pub block_bytes : (width : ℕ) (codes : List ℕ) → AreBytes (packed_block width codes)
unfolding packed_block
block_bytes width codes k = elim (cases_lt k (16 * width)) [
  | inl less ↦ rw (get_or-map-range_with_len (byte_at width codes) 0 (16 * width) k k 0 less (omega arith))
      (joined_small (λ j. body_bit width codes (8 * k + j)) 8 (λ i. body_bit-lt width codes (8 * k + i)))
  | inr more ↦ rw (get_or_past (packed_block width codes) k 0 (omega (arith, length-map-range_with_len (byte_at width codes) 0 (16 * width)))) (omega arith)
]

pub block_len : (width : ℕ) (codes : List ℕ) → length (packed_block width codes) ≡ 16 * width
unfolding packed_block
block_len width codes = length-map-range_with_len (byte_at width codes) 0 (16 * width)

place_within : (width k j : ℕ) → k < 128 → j < width → place 4 width k j < 128 * width
unfolding place
place_within width k j hk hj =
    let q : ℕ = k / 4 * width + j in
    let row : k / 4 * width + j < width * 32 = mul-add-lt (k / 4) width j 32 (omega arith) hj in
    omega arith

-- the bytes of a block are the layout of its codes
pub block_layout : (width : ℕ) (codes : List ℕ) → length codes ≡ 128 → Fits codes width → Layout 4 width codes (packed_block width codes)
block_layout width codes long fits = record {
  code_count = long;
  byte_count = block_len width codes ∙ sized width;
  fits = fits;
  bits = λ k j hk hj. sym (packed_bit width codes (place 4 width k j) (place_within width k j (omega arith) hj) ∙ bit_at_place width k j codes hj);
}
  where
    sized : (w : ℕ) → 16 * w ≡ 4 * 4 * w
    sized w = omega arith

-- and no others are
pub layout_block : (width : ℕ) (codes bytes : List ℕ) → AreBytes bytes → Layout 4 width codes bytes → bytes ≡ packed_block width codes
layout_block width codes bytes are layout =
    let long : length codes ≡ 128 = layout.code_count in
    let (found, are', layout', only) = one_layout_bytes 4 width codes (omega arith) layout.code_count layout.fits in
    only bytes are layout ∙ sym (only (packed_block width codes) (block_bytes width codes) (block_layout width codes long layout.fits))

-- the codes are read from them
pub block_codes : (width : ℕ) (codes : List ℕ) → length codes ≡ 128 → Fits codes width → codes_of 4 width (packed_block width codes) ≡ codes
block_codes width codes long fits =
    let (layout, only) = one_layout_codes 4 width (packed_block width codes) (block_len width codes ∙ omega arith) in
    sym (only codes (block_layout width codes long fits))

-- and bytes are the block of the codes that are read from them
pub block_encoding : (width : ℕ) (bytes : List ℕ) → AreBytes bytes → length bytes ≡ 16 * width → packed_block width (codes_of 4 width bytes) ≡ bytes
block_encoding width bytes are long =
    let (layout, only) = one_layout_codes 4 width bytes (long ∙ omega arith) in
    sym (layout_block width (codes_of 4 width bytes) bytes are layout)
