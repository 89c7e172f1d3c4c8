-- The numbers of a container as a list or as bits, and their body.
use Rattle.std.proofs.Common.{◌≡◌, ℕ, zero, suc, ◌+◌, ◌*◌, ◌/◌, ◌%◌, ◌<◌, ◌≤◌, Bool, false, eqb, List, map, length, replicate, take, get_or, refl, sym, ap, ◌∙◌, arith, subst}
use Rattle.std.proofs.lemmas.Bool.{le-leb, lt-leb}
use Rattle.std.proofs.lemmas.Nat.Bits.{bit_at-zero}
use Rattle.std.specs.Int.{bit_at}
use Rattle.bitpack_slices.proofs.ForCallers.{pairs_len, those_are}
use Rattle.bitpack_slices.specs.Bitmaps.{has_bit}
use Rattle.bitpack_slices.specs.Bodies.{IsRising}
use Rattle.bitpack_slices.specs.Operations.{those}
use Rattle.bitpack_slices.specs.Reads.{has}
use Rattle.bitpack_slices.specs.Slices.{number_of}
use Rattle.bitpack_sets.proofs.ForCallers.{lows_raised, raised_chunk}
use Rattle.bitpack_sets.specs.Written.{IsChunk, lows}
use Rattle.bitpack_roaring.proofs.BitLaws.{bits_have}
use Rattle.bitpack_roaring.proofs.ContainerLaws.{of_array, of_bits}
use Rattle.bitpack_roaring.specs.inner.Heads.{IsContainer}
use Rattle.bitpack_roaring.specs.Roaring.{numbers_of}

-- an array has two bytes for each number
pub array_len : (run : Bool) (count : ℕ) (bytes : List ℕ) → run ≡ false → count ≤ 4096 → IsContainer run count bytes → length bytes / 2 ≡ count
array_len run count bytes is small container =
    let listed = ap (λ (b : Bool). length (numbers_of b count bytes)) is ∙ ap length (of_array count bytes (le-leb count 4096 small)) in
    let size = pairs_len bytes in
    let own = container.count_is in
    omega arith

-- ---- bits

zeros : (n q : ℕ) → get_or {A = ℕ} (replicate n 0) q 0 ≡ 0
zeros zero q = refl
zeros (suc n) zero = refl
zeros (suc n) (suc q) = zeros n q

pub no_bits : (n x : ℕ) → has_bit (replicate n 0) x ≡ false
unfolding has_bit
no_bits n x = ap (λ (w : ℕ). eqb (bit_at w (x % 64)) 1) (zeros n (x / 64)) ∙ ap (λ (b : ℕ). eqb b 1) (bit_at-zero (x % 64))

pub bits_loaded : (run : Bool) (count : ℕ) (bytes words : List ℕ) → run ≡ false → 4096 < count
    → ((x : ℕ) → x < 65536 → has_bit words x ≡ eqb (bit_at (number_of bytes) x) 1) → (x : ℕ) → x < 65536 → has_bit words x ≡ has x (numbers_of run count bytes)
bits_loaded run count bytes words is many same x small =
    bits_have bytes words same x small ∙ sym (ap (λ (b : Bool). has x (numbers_of b count bytes)) is ∙ ap (has x) (of_bits count bytes (lt-leb count 4096 many)))

pub numbers_are : (run : Bool) (count : ℕ) (bytes words : List ℕ) → IsContainer run count bytes → ((x : ℕ) → x < 65536 → has_bit words x ≡ has x (numbers_of run count bytes))
    → those 65536 (has_bit words) ≡ numbers_of run count bytes
numbers_are run count bytes words container same = those_are (has_bit words) 65536 (numbers_of run count bytes) container.rising same

-- ---- a list

module _ (count end : ℕ) (xs out : List ℕ) (e : end ≡ 0 + count) (written : take end out ≡ map (λ i. 0 + i) xs) (rise : IsRising 0 65536 xs) where
  listed : take count out ≡ map (λ low. 0 * 65536 + low) xs
  listed = let same : count ≡ end = omega arith in ap (λ (n : ℕ). take n out) same ∙ written

  pub listed_chunk : IsChunk (take count out)
  listed_chunk = subst IsChunk (sym listed) (raised_chunk 0 xs (omega arith) rise)

  pub listed_lows : lows (take count out) ≡ xs
  listed_lows = ap lows listed ∙ lows_raised 0 0 xs rise
