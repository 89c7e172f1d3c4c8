-- Each lane of a layout is a layout of one lane.
use Rattle.std.proofs.Common.{◌≡◌, ℕ, ◌+◌, ◌*◌, ◌/◌, ◌%◌, ◌<◌, List, length, get_or, refl, sym, ◌∙◌, ap, arith}
use Rattle.std.proofs.lemmas.Nat.{mul-add-lt}
use Rattle.std.proofs.lemmas.List.FromFn.{get_or-map-range_with_len}
use Rattle.std.specs.Int.{bit_at}
use Rattle.bitpacking.specs.Bits.{bit_of}
use Rattle.bitpacking.specs.Layout.{place}
use Rattle.bitpacking.specs.Laws.{lane_bytes, LanesAreOneLaneLayouts}
use Rattle.bitpacking.proofs.LaneEquations.{bit_place, place_at}
use Rattle.bitpacking.proofs.OneToOne.{made, length-made, get_or-made}

-- Bit p of a lane's bytes, as a bit of all the bytes.
pub bit_of-lane_bytes : (lanes lane width : ℕ) (bytes : List ℕ) (p : ℕ) → p < 32 * width
    → bit_of (lane_bytes lanes lane width bytes) p ≡ bit_of bytes (32 * (lanes * (p / 32) + lane) + p % 32)
bit_of-lane_bytes lanes lane width bytes p lt =
    let f : ℕ → ℕ = λ u. get_or bytes (4 * (lanes * (u / 4) + lane) + u % 4) 0 in
    let here : p / 8 < 4 * width = omega arith in
    let word : p / 8 / 4 ≡ p / 32 = omega arith in
    let byte : (32 * (lanes * (p / 32) + lane) + p % 32) / 8 ≡ 4 * (lanes * (p / 32) + lane) + p / 8 % 4 = omega arith in
    let bit : (32 * (lanes * (p / 32) + lane) + p % 32) % 8 ≡ p % 8 = omega arith in
    ap (λ x. bit_at x (p % 8)) (get_or-made f (4 * width) (p / 8) here) ∙ rw (byte, bit, word) refl

pub layout-lane : LanesAreOneLaneLayouts
layout-lane lanes width lane values bytes hl layout =
    let f : ℕ → ℕ = λ i. get_or values (i * lanes + lane) 0 in
    let len : length (made f 32) ≡ 32 = length-made f 32 in
    let all : length values ≡ 32 * lanes = layout.code_count in
    record {
      code_count = len;
      byte_count = length-made (λ u. get_or bytes (4 * (lanes * (u / 4) + lane) + u % 4) 0) (4 * width) ∙ omega arith;
      fits = λ i d hi.
          let row : i < 32 = omega arith in
          rw (get_or-map-range_with_len f 0 32 i i d row (omega arith))
          (layout.fits (i * lanes + lane) 0 (omega (arith, mul-add-lt i lanes lane 32 row hl)));
      bits = λ i j hi hj.
          let row : i < 32 = omega arith in
          let p : ℕ = i * width + j in
          let first : i * 1 + 0 ≡ i = omega arith in
          let alone : 32 * (1 * (p / 32) + 0) + p % 32 ≡ p = omega arith in
          let at_bit : place 1 width i j ≡ p = rw (first, alone) at (place_at 1 width i 0 j (omega arith)) in
          rw (get_or-made f 32 i row, at_bit)
          (layout.bits (i * lanes + lane) j (omega (arith, mul-add-lt i lanes lane 32 row hl)) hj
          ∙ ap (bit_of bytes) (place_at lanes width i lane j hl)
          ∙ sym (bit_of-lane_bytes lanes lane width bytes p (bit_place width i j row hj)));
    }
