-- The first bit that is 1.
use Rattle.std.proofs.Common.{◌≡◌, ℕ, ◌+◌, ◌-◌, ◌/◌, ◌%◌, ◌^◌, ◌<◌, ◌≤◌, ◌≢◌, eqb, true, false, List, get_or, eq-eqb, sym, ap, ◌∙◌, arith, inl, inr, shr-shr}
use Rattle.std.specs.Int.{bit_at, trailing_zeros, w64}
use Rattle.std.proofs.Math.Nat.{div-le_self}
use Rattle.std.proofs.lemmas.Bool.{cases_lt}
use Rattle.std.proofs.lemmas.Nat.Bits.{bit_at-trailing_zeros, bit_at-zero, bit_at_above}
use Rattle.bitpack_slices.proofs.lemmas.bits.BitmapLaws.{has_of}
use Rattle.bitpack_slices.specs.Bitmaps.{has_bit}

-- the bit of a word that was shifted
shifted_bit : (words : List ℕ) (at i : ℕ) → at ≤ i → i / 64 ≡ at / 64 → has_bit words i ≡ eqb (bit_at (get_or words (at / 64) 0 / 2 ^ (at % 64)) (i - at)) 1
shifted_bit words at i h same =
    let position : at % 64 + (i - at) ≡ i % 64 = omega arith in
    has_of words (at / 64) i same
    ∙ ap (λ (b : ℕ). eqb b 1) (ap (bit_at (get_or words (at / 64) 0)) (sym position) ∙ ap (λ (m : ℕ). m % 2) (sym (shr-shr (get_or words (at / 64) 0) (at % 64) (i - at))))

pub zero_bit : (words : List ℕ) (at i : ℕ) → at ≤ i → i / 64 ≡ at / 64 → bit_at (get_or words (at / 64) 0 / 2 ^ (at % 64)) (i - at) ≡ 0 → has_bit words i ≡ false
zero_bit words at i h same e = shifted_bit words at i h same ∙ ap (λ (b : ℕ). eqb b 1) e

pub zero_word : (words : List ℕ) (at i : ℕ) → at ≤ i → i / 64 ≡ at / 64 → get_or words (at / 64) 0 / 2 ^ (at % 64) ≡ 0 → has_bit words i ≡ false
zero_word words at i h same e = zero_bit words at i h same (ap (λ (w : ℕ). bit_at w (i - at)) e ∙ bit_at-zero (i - at))

pub record IsLowest (words : List ℕ) (at zeros : ℕ) : Type 0 where
  pub within : at % 64 + zeros < 64
  pub one : has_bit words (at + zeros) ≡ true
  pub none : (i : ℕ) → at ≤ i → i < at + zeros → has_bit words i ≡ false

pub is_lowest : (words : List ℕ) (at : ℕ) → get_or words (at / 64) 0 < 2 ^ 64 → get_or words (at / 64) 0 / 2 ^ (at % 64) ≢ 0 → IsLowest words at (trailing_zeros w64 (get_or words (at / 64) 0 / 2 ^ (at % 64)))
is_lowest words at small some =
    let word : ℕ = get_or words (at / 64) 0 in
    let shifted : ℕ = word / 2 ^ (at % 64) in
    let zeros : ℕ = trailing_zeros w64 shifted in
    let less : shifted ≤ word = div-le_self word (2 ^ (at % 64)) in
    let found = bit_at-trailing_zeros w64 shifted (omega arith) (omega arith) in
    let bit : bit_at word (at % 64 + zeros) ≡ 1 = ap (λ (m : ℕ). m % 2) (sym (shr-shr word (at % 64) zeros)) ∙ found.1 in
    let inside : at % 64 + zeros < 64 = elim (cases_lt (at % 64 + zeros) 64) [
      | inl lt ↦ lt
      | inr ge ↦ absurd (omega (arith, bit, bit_at_above word 64 (at % 64 + zeros) small ge))
    ] in
    let back : at + zeros - at ≡ zeros = omega arith in
    record {
      within = inside;
      one = shifted_bit words at (at + zeros) (omega arith) (omega arith) ∙ eq-eqb (bit_at shifted (at + zeros - at)) 1 (ap (bit_at shifted) back ∙ found.1);
      none = λ i a b. zero_bit words at i a (omega arith) (found.2 (i - at) (omega arith));
    }
