-- The flags of containers: as bits of words, and as bytes.
use Rattle.std.proofs.Common.{◌≡◌, ℕ, ◌+◌, ◌*◌, ◌/◌, ◌%◌, ◌^◌, ◌<◌, ◌≤◌, Bool, true, false, ◌&&◌, ◌||◌, cond, eqb, List, [], ◌∷◌, length, get_or, bit_and, min, refl, sym, ap, ◌∙◌, arith, inl, inr, subst, eq-eqb}
use Rattle.std.specs.Int.{bit_at}
use Rattle.std.proofs.lemmas.Bool.{cases_lt, ne_eqb}
use Rattle.std.proofs.lemmas.List.{get_or_past, take_all}
use Rattle.std.proofs.lemmas.Nat.{and_mask, shr-shr}
use Rattle.std.proofs.lemmas.Nat.Bits.{bit_at-lt, bit_at_and, bit_at_ones}
use Rattle.bitpack_slices.proofs.ForCallers.{EachByte, bit_of_bytes, bytes_are, number_bits, number_little, ones_all, rising_lower, those_are, those_same}
use Rattle.bitpack_slices.specs.Bitmaps.{has_bit}
use Rattle.bitpack_slices.specs.Bodies.{IsRising, bits, le_bytes}
use Rattle.bitpack_slices.specs.Operations.{those}
use Rattle.bitpack_slices.specs.Reads.{has}
use Rattle.bitpack_slices.specs.Slices.{number_of, ones_from}
use Rattle.bitpack_roaring.proofs.MeasureSteps.{flag_first, or_none}
use Rattle.bitpack_roaring.specs.Written.{are_runs, flagged}

-- ---- which containers are runs

not_flagged : (m n : ℕ) (others : List (List ℕ)) → m < n → has m (flagged n others) ≡ false
unfolding flagged
not_flagged m n [] less = refl
not_flagged m n (xs ∷ others) less =
    flag_first m n xs others ∙ ap (λ (b : Bool). (b && are_runs xs) || has m (flagged (n + 1) others)) (ne_eqb m n (λ e. omega arith)) ∙ not_flagged m (n + 1) others (omega arith)

-- the first of these
pub flag_own : (n : ℕ) (xs : List ℕ) (others : List (List ℕ)) → has n (flagged n (xs ∷ others)) ≡ are_runs xs
flag_own n xs others =
    flag_first n n xs others ∙ ap (λ (b : Bool). (b && are_runs xs) || has n (flagged (n + 1) others)) (eq-eqb n n refl)
    ∙ ap (λ (b : Bool). are_runs xs || b) (not_flagged n (n + 1) others (omega arith)) ∙ or_none (are_runs xs)

-- and those after it
pub flag_later : (m n : ℕ) (xs : List ℕ) (others : List (List ℕ)) → n + 1 ≤ m → has m (flagged n (xs ∷ others)) ≡ has m (flagged (n + 1) others)
flag_later m n xs others more =
    flag_first m n xs others ∙ ap (λ (b : Bool). (b && are_runs xs) || has m (flagged (n + 1) others)) (ne_eqb m n (λ e. omega arith))

choose : (b : Bool) (n high : ℕ) (xs : List ℕ) → n < high → IsRising (n + 1) high xs → IsRising n high (cond b (n ∷ xs) xs)
choose true n high xs less r = (omega arith, r)
choose false n high xs less r = rising_lower (n + 1) n high xs (omega arith) r

pub flags_rise : (n high : ℕ) (others : List (List ℕ)) → n + length others ≤ high → IsRising n high (flagged n others)
unfolding flagged
flags_rise n high [] h = omega arith
flags_rise n high (xs ∷ others) h = choose (are_runs xs) n high (flagged (n + 1) others) (omega arith) (flags_rise (n + 1) high others (omega arith))

-- they are the bits of words
pub flags_are : (flags : List ℕ) (high : ℕ) (all : List (List ℕ)) → length all ≤ high → ((m : ℕ) → has_bit flags m ≡ has m (flagged 0 all)) → those high (has_bit flags) ≡ flagged 0 all
flags_are flags high all room are = those_are (has_bit flags) high (flagged 0 all) (flags_rise 0 high all (omega arith)) (λ m h. are m)

-- ---- the bytes of words

masked : (w k i : ℕ) → i < 8 → bit_at (bit_and (w / 2 ^ k) 255) i ≡ bit_at w (k + i)
masked w k i small =
    let few = bit_at-lt (w / 2 ^ k) i in
    let one : bit_at 255 i ≡ 1 = bit_at_ones 8 i small in
    let both : bit_at (bit_and (w / 2 ^ k) 255) i ≡ min (bit_at (w / 2 ^ k) i) (bit_at 255 i) = bit_at_and (w / 2 ^ k) 255 i in
    let same : bit_at (bit_and (w / 2 ^ k) 255) i ≡ bit_at (w / 2 ^ k) i = omega arith in
    same ∙ ap (λ (n : ℕ). n % 2) (shr-shr w k i)

-- bytes that are cut out of words one after the other
abbrev pub AreCut : List ℕ → List ℕ → ℕ → Type 0
AreCut words out n = (k : ℕ) → k < n → get_or out k 0 ≡ bit_and (get_or words (k / 8) 0 / 2 ^ (8 * (k % 8))) 255

cut_bit : (words out : List ℕ) (i : ℕ) → EachByte out → i < 8 * length out → AreCut words out (length out) → has_bit words i ≡ eqb (bit_at (number_of out) i) 1
unfolding has_bit
cut_bit words out i are small cut =
    let split : i ≡ 8 * (i / 8) + i % 8 = omega arith in
    let word : i / 8 / 8 ≡ i / 64 = omega arith in
    let bit : 8 * (i / 8 % 8) + i % 8 ≡ i % 64 = omega arith in
    sym (ap (λ (b : ℕ). eqb b 1) (
    ap (bit_at (number_of out)) split ∙ bit_of_bytes out (i / 8) (i % 8) are (omega arith) (omega arith) ∙ ap (λ (b : ℕ). bit_at b (i % 8)) (cut (i / 8) (omega arith))
    ∙ masked (get_or words (i / 8 / 8) 0) (8 * (i / 8 % 8)) (i % 8) (omega arith) ∙ ap (λ (k : ℕ). bit_at (get_or words k 0) (8 * (i / 8 % 8) + i % 8)) word
    ∙ ap (bit_at (get_or words (i / 64) 0)) bit
    ))

cut_small : (words out : List ℕ) → AreCut words out (length out) → (k : ℕ) → get_or out k 0 < 256
cut_small words out cut k = elim (cases_lt k (length out)) [
  | inl less ↦ (
      let w : ℕ = get_or words (k / 8) 0 / 2 ^ (8 * (k % 8)) in
      let is : bit_and w 255 ≡ w % 2 ^ 8 = and_mask w 8 in
      let own = cut k less in
      omega arith)
  | inr past ↦ (let none = get_or_past out k 0 past in omega arith)
]

pub cut_bytes : (words out : List ℕ) → AreCut words out (length out)
    → out ≡ le_bytes (length out) (bits (those (8 * length out) (has_bit words)))
unfolding ones_from those
cut_bytes words out cut =
    let are : EachByte out = bytes_are out (cut_small words out cut) in
    let n : ℕ = length out in
    let x : ℕ = number_of out in
    let below : x < 2 ^ (8 * n) = subst (λ (l : List ℕ). number_of l < 2 ^ (8 * n)) (take_all n out (omega arith)) (number_bits n out are) in
    let same : bits (those (8 * n) (has_bit words)) ≡ x =
    ap bits (those_same (8 * n) (has_bit words) (λ i. eqb (bit_at x i) 1) (λ i h. cut_bit words out i are h cut)) ∙ ones_all x (8 * n) below in
    sym (number_little out are) ∙ ap (le_bytes n) (sym same)
