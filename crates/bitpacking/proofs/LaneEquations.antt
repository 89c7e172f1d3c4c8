-- A layout is one equation between numbers for each lane.
use Rattle.bitpacking.specs.Words.{joined, word}
use Rattle.bitpacking.specs.Bits.{AreBytes, bit_of}
use Rattle.std.proofs.Common.{◌≡◌, ℕ, ◌+◌, ◌*◌, ◌/◌, ◌%◌, ◌^◌, ◌<◌, List, length, get_or, refl, sym, ◌∙◌, ap, arith}
use Rattle.std.specs.Int.{bit_at}
use Rattle.std.proofs.lemmas.Nat.{mul-add-lt, div-mul-add, mod-mul-add, mod_below, div_below, div-add-mod'}
use Rattle.std.proofs.lemmas.Nat.Bits.{same_from_bits_below}
use Rattle.bitpacking.specs.Width.{Fits}
use Rattle.bitpacking.specs.Layout.{place, Layout, size}
use Rattle.bitpacking.proofs.Digits.{Small, joined-lt, bit_at-joined}

pub word-lt : (bytes : List ℕ) → AreBytes bytes → (q : ℕ) → word bytes q < 2 ^ 32
unfolding word
word-lt bytes small q = joined-lt 8 (λ m. get_or bytes (4 * q + m) 0) 4 (λ i lt. small (4 * q + i))

pub bit_of-word : (bytes : List ℕ) → AreBytes bytes → (q r : ℕ) → r < 32
    → bit_of bytes (32 * q + r) ≡ bit_at (word bytes q) r
unfolding word
bit_of-word bytes small q r lt =
    let row : (32 * q + r) / 8 ≡ 4 * q + r / 8 = omega arith in
    let col : (32 * q + r) % 8 ≡ r % 8 = omega arith in
    let whole : r / 8 * 8 + r % 8 ≡ r = omega arith in
    let high : r / 8 < 4 = omega arith in
    let low : r % 8 < 8 = omega arith in
    let f : ℕ → ℕ = λ m. get_or bytes (4 * q + m) 0 in
    let e : bit_at (joined 8 f 4) (r / 8 * 8 + r % 8) ≡ bit_at (f (r / 8)) (r % 8) =
    bit_at-joined 8 f 4 (r / 8) (r % 8) (λ i h. small (4 * q + i)) high low in
    rw (row, col) (sym e ∙ ap (λ x. bit_at (joined 8 f 4) x) whole)

-- The codes and the words of one lane.
abbrev pub lane_code : ℕ → List ℕ → ℕ → ℕ → ℕ
lane_code lanes values l i = get_or values (i * lanes + l) 0

abbrev pub lane_word : ℕ → List ℕ → ℕ → ℕ → ℕ
lane_word lanes bytes l q = word bytes (lanes * q + l)

-- The words of the lane, joined, are its codes, joined.
pub record SameLane (lanes width : ℕ) (values bytes : List ℕ) (l : ℕ) : Type 0 where
  pub same : joined 32 (lane_word lanes bytes l) width ≡ joined width (lane_code lanes values l) 32

pub bit_of-lane : (lanes width : ℕ) (bytes : List ℕ) → AreBytes bytes → (l p : ℕ) → p < 32 * width
    → bit_of bytes (32 * (lanes * (p / 32) + l) + p % 32) ≡ bit_at (joined 32 (lane_word lanes bytes l) width) p
bit_of-lane lanes width bytes small l p lt =
    let low : p % 32 < 32 = omega arith in
    let high : p / 32 < width = omega arith in
    let whole : p / 32 * 32 + p % 32 ≡ p = omega arith in
    let f : ℕ → ℕ = lane_word lanes bytes l in
    let e : bit_at (joined 32 f width) (p / 32 * 32 + p % 32) ≡ bit_at (f (p / 32)) (p % 32) =
    bit_at-joined 32 f width (p / 32) (p % 32) (λ i h. word-lt bytes small (lanes * i + l)) high low in
    bit_of-word bytes small (lanes * (p / 32) + l) (p % 32) low
    ∙ sym e ∙ ap (λ x. bit_at (joined 32 f width) x) whole

pub bit_place : (width i j : ℕ) → i < 32 → j < width → i * width + j < 32 * width
bit_place width i j hi hj = omega (arith, mul-add-lt i width j 32 hi hj)

-- Where bit j of the code in row i of lane l is.
pub place_at : (lanes width i l j : ℕ) → l < lanes
    → place lanes width (i * lanes + l) j ≡ 32 * (lanes * ((i * width + j) / 32) + l) + (i * width + j) % 32
unfolding place
place_at lanes width i l j lt = rw (div-mul-add i lanes l lt, mod-mul-add i lanes l lt) refl

pub lane_code-lt : (lanes width : ℕ) (values : List ℕ) (l : ℕ) → length values ≡ 32 * lanes → Fits values width
    → l < lanes → Small width (lane_code lanes values l) 32
lane_code-lt lanes width values l len fits lt i hi =
    fits (i * lanes + l) 0 (omega (arith, mul-add-lt i lanes l 32 hi lt))

-- A code's bit, and the bit of the list where the format puts it.
pub bit-from_lane : (lanes width : ℕ) (values bytes : List ℕ) → AreBytes bytes
    → length values ≡ 32 * lanes → Fits values width
    → (l : ℕ) → l < lanes → SameLane lanes width values bytes l
    → (i j : ℕ) → i < 32 → j < width
    → bit_at (get_or values (i * lanes + l) 0) j ≡ bit_of bytes (place lanes width (i * lanes + l) j)
bit-from_lane lanes width values bytes small len fits l lt same i j hi hj =
    let p : ℕ = i * width + j in
    let f : ℕ → ℕ = lane_code lanes values l in
    let e : bit_at (joined width f 32) (i * width + j) ≡ bit_at (f i) j =
    bit_at-joined width f 32 i j (lane_code-lt lanes width values l len fits lt) hi hj in
    let at_bit : bit_of bytes (place lanes width (i * lanes + l) j)
    ≡ bit_of bytes (32 * (lanes * (p / 32) + l) + p % 32) =
    ap (bit_of bytes) (place_at lanes width i l j lt) in
    sym (at_bit ∙ bit_of-lane lanes width bytes small l p (bit_place width i j hi hj)
    ∙ ap (λ x. bit_at x p) same.same ∙ e)

pub row_below : (lanes k : ℕ) → 0 < lanes → k < 32 * lanes → k / lanes < 32
row_below lanes k some lt = div_below k lanes 32 some lt

pub row_split : (lanes k : ℕ) → k / lanes * lanes + k % lanes ≡ k
row_split lanes k = div-add-mod' k lanes

pub Layout-from_lanes : (lanes width : ℕ) (values bytes : List ℕ) → AreBytes bytes → 0 < lanes
    → length values ≡ 32 * lanes → length bytes ≡ size lanes width → Fits values width
    → ((l : ℕ) → l < lanes → SameLane lanes width values bytes l)
    → Layout lanes width values bytes
Layout-from_lanes lanes width values bytes small some code_count byte_count fits same = record {
  code_count = code_count;
  byte_count = byte_count;
  fits = fits;
  bits = λ k j hk hj.
      let i : ℕ = k / lanes in
      let l : ℕ = k % lanes in
      let hl : k % lanes < lanes = mod_below k lanes some in
      let e : bit_at (get_or values (k / lanes * lanes + k % lanes) 0) j
      ≡ bit_of bytes (place lanes width (k / lanes * lanes + k % lanes) j) =
      bit-from_lane lanes width values bytes small code_count fits (k % lanes) hl (same (k % lanes) hl)
      (k / lanes) j (row_below lanes k some hk) hj in
      rw (row_split lanes k) at e;
}

pub lanes-from_layout : (lanes width : ℕ) (values bytes : List ℕ) → AreBytes bytes
    → Layout lanes width values bytes → (l : ℕ) → l < lanes → SameLane lanes width values bytes l
lanes-from_layout lanes width values bytes small layout l lt =
    let f : ℕ → ℕ = lane_word lanes bytes l in
    let g : ℕ → ℕ = lane_code lanes values l in
    let f_small : Small 32 f width = λ i h. word-lt bytes small (lanes * i + l) in
    let g_small : Small width g 32 = lane_code-lt lanes width values l layout.code_count layout.fits lt in
    let f_lt : joined 32 f width < 2 ^ (32 * width) = joined-lt 32 f width f_small in
    let g_lt : joined width g 32 < 2 ^ (width * 32) = joined-lt width g 32 g_small in
    let turn : width * 32 ≡ 32 * width = omega arith in
    record {
      same = same_from_bits_below (32 * width) (joined 32 f width) (joined width g 32) f_lt
          (rw turn at g_lt)
          (λ t ht.
          let some : 0 < width = omega arith in
          let hi : t / width < 32 = div_below t width 32 some ht in
          let hj : t % width < width = mod_below t width some in
          let e : bit_at (joined width g 32) (t / width * width + t % width) ≡ bit_at (g (t / width)) (t % width) =
          bit_at-joined width g 32 (t / width) (t % width) g_small hi hj in
          let at_bit : place lanes width (t / width * lanes + l) (t % width)
          ≡ 32 * (lanes * ((t / width * width + t % width) / 32) + l) + (t / width * width + t % width) % 32 =
          place_at lanes width (t / width) l (t % width) lt in
          let b : bit_at (get_or values (t / width * lanes + l) 0) (t % width)
          ≡ bit_of bytes (place lanes width (t / width * lanes + l) (t % width)) =
          layout.bits (t / width * lanes + l) (t % width)
          (omega (arith, mul-add-lt (t / width) lanes l 32 hi lt)) hj in
          let whole : t / width * width + t % width ≡ t = row_split width t in
          sym (bit_of-lane lanes width bytes small l t ht)
          ∙ sym (rw (at_bit, whole) at b)
          ∙ sym (rw whole at e));
    }
