-- Codes that fit have one list of bytes, and each list of bytes has one list of codes.
use Rattle.bitpacking.specs.Words.{joined}
use Rattle.bitpacking.specs.Bits.{AreBytes, bit_of}
use Rattle.std.proofs.Common.{◌≡◌, ℕ, ◌+◌, ◌*◌, ◌/◌, ◌%◌, ◌<◌, ◌≤◌, List, length, map, get_or, refl, sym, ◌∙◌, ap, ⊎_elim, arith}
use Rattle.std.specs.Int.{bit_at}
use Rattle.std.specs.List.{range_with_len}
use Rattle.std.proofs.lemmas.Nat.Bits.{same_from_bits_below, bit_at-lt}
use Rattle.std.proofs.lemmas.Bool.{cases_lt}
use Rattle.std.proofs.lemmas.List.{get_or_past, ext_get_or}
use Rattle.std.proofs.lemmas.List.FromFn.{length-map-range_with_len, get_or-map-range_with_len}
use Rattle.bitpacking.specs.Width.{Fits}
use Rattle.bitpacking.specs.Layout.{codes_of, place, Layout, size}
use Rattle.bitpacking.proofs.Digits.{joined-lt, bit_at-joined}
use Rattle.bitpacking.proofs.BitPlaces.{code_of, offset_of, of_place, place_lt, place_of}

-- The list whose element k, for k below n, is f k.
abbrev pub made : (ℕ → ℕ) → ℕ → List ℕ
made f n = map f (range_with_len 0 n)

pub length-made : (f : ℕ → ℕ) (n : ℕ) → length (made f n) ≡ n
length-made f n = length-map-range_with_len f 0 n

pub get_or-made : (f : ℕ → ℕ) (n k : ℕ) → k < n → get_or (made f n) k 0 ≡ f k
get_or-made f n k lt = get_or-map-range_with_len f 0 n k k 0 lt (omega arith)

-- A number of given bits.
pub bit_at-bits : (f : ℕ → ℕ) (n m : ℕ) → ((i : ℕ) → f i < 2) → m < n → bit_at (joined 1 f n) m ≡ f m
bit_at-bits f n m small lt =
    let e : bit_at (joined 1 f n) (m * 1 + 0) ≡ bit_at (f m) 0 =
    bit_at-joined 1 f n m 0 (λ i h. small i) lt (omega arith) in
    let at_bit : m * 1 + 0 ≡ m = omega arith in
    let h : f m < 2 = small m in
    rw at_bit at e ∙ omega arith

pub same_bytes : (xs ys : List ℕ) → AreBytes xs → AreBytes ys → length xs ≡ length ys
    → ((t : ℕ) → t < 8 * length xs → bit_of xs t ≡ bit_of ys t) → xs ≡ ys
same_bytes xs ys small small' len same =
    ext_get_or 0 xs ys len (λ u hu. same_from_bits_below 8 (get_or xs u 0) (get_or ys u 0) (small u) (small' u)
    (λ m hm.
    let row : (8 * u + m) / 8 ≡ u = omega arith in
    let col : (8 * u + m) % 8 ≡ m = omega arith in
    rw (row, col) at (same (8 * u + m) (omega arith))))

-- ---- the bytes of codes
unfoldable pub laid_bit : ℕ → ℕ → List ℕ → ℕ → ℕ
laid_bit lanes width values t = bit_at (get_or values (code_of lanes width t) 0) (offset_of lanes width t)

unfoldable pub bytes_of : ℕ → ℕ → List ℕ → List ℕ
bytes_of lanes width values =
    made (λ u. joined 1 (λ m. laid_bit lanes width values (8 * u + m)) 8) (size lanes width)

pub laid_bit-lt : (lanes width : ℕ) (values : List ℕ) (t : ℕ) → laid_bit lanes width values t < 2
unfolding laid_bit
laid_bit-lt lanes width values t = bit_at-lt (get_or values (code_of lanes width t) 0) (offset_of lanes width t)

pub bytes_of-bytes : (lanes width : ℕ) (values : List ℕ) → AreBytes (bytes_of lanes width values)
unfolding bytes_of
bytes_of-bytes lanes width values u =
    let f : ℕ → ℕ = λ u'. joined 1 (λ m. laid_bit lanes width values (8 * u' + m)) 8 in
    ⊎_elim
    (λ (lt : u < size lanes width).
    rw (get_or-made f (size lanes width) u lt)
    (joined-lt 1 (λ m. laid_bit lanes width values (8 * u + m)) 8 (λ i h. laid_bit-lt lanes width values (8 * u + i))))
    (λ (ge : size lanes width ≤ u).
    let len : length (made f (size lanes width)) ≡ size lanes width = length-made f (size lanes width) in
    rw (get_or_past (made f (size lanes width)) u 0 (omega arith)) (omega arith))
    (cases_lt u (size lanes width))

pub bit_of-bytes_of : (lanes width : ℕ) (values : List ℕ) (t : ℕ) → t < 8 * size lanes width
    → bit_of (bytes_of lanes width values) t ≡ laid_bit lanes width values t
unfolding bytes_of
bit_of-bytes_of lanes width values t lt =
    let f : ℕ → ℕ = λ u. joined 1 (λ m. laid_bit lanes width values (8 * u + m)) 8 in
    let hu : t / 8 < size lanes width = omega arith in
    let hm : t % 8 < 8 = omega arith in
    let whole : 8 * (t / 8) + t % 8 ≡ t = omega arith in
    rw (get_or-made f (size lanes width) (t / 8) hu)
    (bit_at-bits (λ m. laid_bit lanes width values (8 * (t / 8) + m)) 8 (t % 8)
    (λ i. laid_bit-lt lanes width values (8 * (t / 8) + i)) hm
    ∙ ap (laid_bit lanes width values) whole)

pub Layout-bytes_of : (lanes width : ℕ) (values : List ℕ) → 0 < lanes
    → length values ≡ 32 * lanes → Fits values width
    → Layout lanes width values (bytes_of lanes width values)
unfolding bytes_of laid_bit
Layout-bytes_of lanes width values some len fits = record {
  code_count = len;
  byte_count = length-made (λ u. joined 1 (λ m. laid_bit lanes width values (8 * u + m)) 8) (size lanes width);
  fits = fits;
  bits = λ k j hk hj.
      let back = of_place lanes width k j some hj in
      sym (bit_of-bytes_of lanes width values (place lanes width k j) (place_lt lanes width k j some hk hj)
      ∙ rw (back.0, back.1) refl);
}

pub same_bytes-from_layout : (lanes width : ℕ) (values xs ys : List ℕ) → 0 < lanes → AreBytes xs → AreBytes ys
    → Layout lanes width values xs → Layout lanes width values ys → xs ≡ ys
same_bytes-from_layout lanes width values xs ys some small small' layout layout' =
    same_bytes xs ys small small' (layout.byte_count ∙ sym layout'.byte_count) (λ t ht.
    let len : length xs ≡ size lanes width = layout.byte_count in
    let back = place_of lanes width t some (rw len at ht) in
    let k : ℕ = code_of lanes width t in
    let j : ℕ = offset_of lanes width t in
    let e = sym (layout.bits k j back.0 back.1) ∙ layout'.bits k j back.0 back.1 in
    rw back.2 at e)

-- ---- the codes of bytes
pub bit_of-lt : (bytes : List ℕ) (t : ℕ) → bit_of bytes t < 2
bit_of-lt bytes t = bit_at-lt (get_or bytes (t / 8) 0) (t % 8)

pub Layout-codes_of : (lanes width : ℕ) (bytes : List ℕ) → length bytes ≡ size lanes width
    → Layout lanes width (codes_of lanes width bytes) bytes
unfolding codes_of
Layout-codes_of lanes width bytes len =
    let f : ℕ → ℕ = λ k. joined 1 (λ j. bit_of bytes (place lanes width k j)) width in
    let code_count : length (made f (32 * lanes)) ≡ 32 * lanes = length-made f (32 * lanes) in
    record {
      code_count = code_count;
      byte_count = len;
      fits = λ k d hk.
          let h : k < 32 * lanes = omega arith in
          let one : 1 * width ≡ width = omega arith in
          rw (get_or-map-range_with_len f 0 (32 * lanes) k k d h (omega arith))
          (rw one at (joined-lt 1 (λ j. bit_of bytes (place lanes width k j)) width
          (λ j hj. bit_of-lt bytes (place lanes width k j))));
      bits = λ k j hk hj.
          rw (get_or-made f (32 * lanes) k hk)
          (bit_at-bits (λ j. bit_of bytes (place lanes width k j)) width j
          (λ i. bit_of-lt bytes (place lanes width k i)) hj);
    }

pub same_codes-from_layout : (lanes width : ℕ) (xs ys bytes : List ℕ)
    → Layout lanes width xs bytes → Layout lanes width ys bytes → xs ≡ ys
same_codes-from_layout lanes width xs ys bytes layout layout' =
    let len : length xs ≡ 32 * lanes = layout.code_count in
    let len' : length ys ≡ 32 * lanes = layout'.code_count in
    ext_get_or 0 xs ys (len ∙ sym len') (λ k hk.
    let hk' : k < 32 * lanes = omega arith in
    same_from_bits_below width (get_or xs k 0) (get_or ys k 0)
    (layout.fits k 0 hk) (layout'.fits k 0 (omega arith))
    (λ j hj. layout.bits k j hk' hj ∙ sym (layout'.bits k j hk' hj)))
