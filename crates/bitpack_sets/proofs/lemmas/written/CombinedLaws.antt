-- The ids that an operation on two bodies of one key gives are one chunk.
use Rattle.std.proofs.Common.{◌≡◌, ℕ, zero, suc, ◌+◌, ◌*◌, ◌/◌, ◌%◌, ◌^◌, ◌<◌, ◌≤◌, false, eqb, List, [], ◌∷◌, map, length, get_or, take, replicate, refl, sym, ap, ◌∙◌, arith, subst}
use Rattle.std.proofs.lemmas.List.{length-map, length-take-le}
use Rattle.std.proofs.lemmas.Nat.Bits.{bit_at-zero}
use Rattle.std.specs.Int.{bit_at}
use Rattle.bitpack_slices.proofs.ForCallers.{rising_lower, rising_room, those_rise}
use Rattle.bitpack_slices.specs.Bitmaps.{has_bit}
use Rattle.bitpack_slices.specs.Bodies.{IsRising}
use Rattle.bitpack_slices.specs.Follows.{Follow}
use Rattle.bitpack_slices.specs.Operations.{apply, combined}
use Rattle.bitpack_slices.specs.Reads.{has}
use Rattle.bitpack_slices.specs.declared.operation.Operation.{Operation}
use Rattle.bitpack_sets.proofs.lemmas.encodings.LongLaws.{body_len}
use Rattle.bitpack_sets.specs.Sets.{body}
use Rattle.bitpack_sets.specs.Written.{IsChunk}

-- no bit of words of 0 is 1
zero_at : (n q : ℕ) → ◌≡◌ {A = ℕ} (get_or (replicate n 0) q 0) 0
zero_at zero q = refl
zero_at (suc n) zero = refl
zero_at (suc n) (suc q) = zero_at n q

pub has_none : (n k : ℕ) → has_bit (replicate n 0) k ≡ false
unfolding has_bit
has_none n k = ap (λ (w : ℕ). eqb (bit_at w (k % 64)) 1) (zero_at n (k / 64)) ∙ ap (λ (b : ℕ). eqb b 1) (bit_at-zero (k % 64))

-- ---- ids of one key

raised_rises : (k low high top : ℕ) (xs : List ℕ) → k + high ≤ top → IsRising low high xs → IsRising (k + low) top (map (λ i. k + i) xs)
raised_rises k low high top [] room r = omega arith
raised_rises k low high top (x ∷ xs) room (a, r) =
    let next : k + (x + 1) ≡ k + x + 1 = omega arith in
    (omega arith, subst (λ (n : ℕ). IsRising n top (map (λ i. k + i) xs)) next (raised_rises k (x + 1) high top xs room r))

key_shared : (key low : ℕ) (xs : List ℕ) → IsRising low 65536 xs → (k : ℕ) → k < length xs → get_or (map (λ i. key * 65536 + i) xs) k 0 / 65536 ≡ key
key_shared key low [] r k lt = absurd (omega arith)
key_shared key low (x ∷ xs) (a, r) zero lt = let room = rising_room (x + 1) 65536 xs r in omega arith
key_shared key low (x ∷ xs) (a, r) (suc k) lt = key_shared key (x + 1) xs r k (omega arith)

pub raised_chunk : (key : ℕ) (xs : List ℕ) → key < 65536 → IsRising 0 65536 xs → IsChunk (map (λ low. key * 65536 + low) xs)
raised_chunk key xs small r =
    let ids : List ℕ = map (λ low. key * 65536 + low) xs in
    let long = length-map xs (λ low. key * 65536 + low) in record {
      rising = rising_lower (key * 65536 + 0) 0 (2 ^ 32) ids (omega arith) (raised_rises (key * 65536) 0 65536 (2 ^ 32) xs (omega arith) r);
      shared = λ k lt. key_shared key 0 xs r k (omega arith) ∙ sym (key_shared key 0 xs r 0 (omega arith));
    }

pub combined_rises : (operation : Operation) (xs ys : List ℕ) → IsRising 0 65536 (combined 65536 operation xs ys)
combined_rises operation xs ys = those_rise (λ x. apply operation (has x xs) (has x ys)) 65536

-- ids that were written from the start
pub ids_written : (key end : ℕ) (xs old new : List ℕ) → Follow (map (λ low. key * 65536 + low) xs) old new 0 end → end ≤ length new
    → (take end new ≡ map (λ low. key * 65536 + low) xs) × (end ≡ length xs)
ids_written key end xs old new follow within = (follow.written within, omega (arith, follow.end_is, length-map xs (λ low. key * 65536 + low)))

-- a body that was written at the start has at most two bytes for each number
pub written_small : (size : ℕ) (out xs : List ℕ) → size ≤ length out → take size out ≡ body xs → 0 < length xs → size ≤ 2 * length xs
written_small size out xs within is some = let a = length-take-le size out within in let b = ap length is in let d = body_len xs some in omega arith
