-- Which high bytes the numbers of a bitmap have.
use mir.Val.{bool_byte}
use Rattle.std.proofs.Common.{◌≡◌, ◌≢◌, ℕ, zero, suc, ◌+◌, ◌*◌, ◌/◌, ◌%◌, ◌^◌, ◌-◌, ◌<◌, ◌≤◌, Bool, true, false, not, ◌||◌, eqb, ltb, List, [], ◌∷◌, take, drop, length, get_or, refl, sym, ap, ◌∙◌, arith, inl, inr, bit_or, eq-eqb, zero-mul, w64}
use Rattle.std.specs.Int.{bit_at}
use Rattle.std.specs.Int.Bits.{or_zero_r}
use Rattle.std.proofs.lemmas.Bool.{cases_eq, cases_lt, le-ltb, lt-ltb, ne_eqb, or_parts}
use Rattle.std.proofs.lemmas.List.{get_or-drop, get_or-take, nil_from_length}
use Rattle.std.proofs.lemmas.Nat.Bits.{bit_at-zero, bit_at_set_other, bit_at_set_same}
use Rattle.bitpack_slices.proofs.lemmas.bits.BitmapLaws.{ones_counted_more, those_none}
use Rattle.bitpack_slices.proofs.lemmas.bits.CombineLaws.{word_or}
use Rattle.bitpack_slices.proofs.lemmas.bits.OnesLaws.{none_of_zero, ones_all}
use Rattle.bitpack_slices.proofs.lemmas.bits.UnpackLaws.{lows_cut}
use Rattle.bitpack_slices.specs.Bitmaps.{has_bit, high_lows}
use Rattle.bitpack_slices.specs.Bodies.{bits}
use Rattle.bitpack_slices.specs.Operations.{those}
use Rattle.bitpack_slices.specs.Slices.{ones_from}

-- ---- the numbers of a high byte are those of its four words

abbrev pub ones : List ℕ → ℕ → ℕ
ones words q = length (ones_from (get_or words q 0) 0 64)

part_word : (high q : ℕ) (words : List ℕ) → q < 4 → ones (take 4 (drop (4 * high) words)) q ≡ ones words (4 * high + q)
part_word high q words h = ap (λ (w : ℕ). length (ones_from w 0 64)) (get_or-take 4 (drop (4 * high) words) q 0 h ∙ get_or-drop (4 * high) words q 0)

no_bits : (words : List ℕ) → length (those 0 (has_bit words)) ≡ 0
unfolding those
no_bits words = refl

part_lows : (high : ℕ) (words : List ℕ) → those 256 (has_bit (take 4 (drop (4 * high) words))) ≡ high_lows words high
part_lows high words =
    let four : 4 * high + 4 - 4 * high ≡ 4 = omega arith in
    sym (ap (λ (n : ℕ). those 256 (has_bit (take n (drop (4 * high) words)))) four) ∙ lows_cut high words

pub lows_counted : (high : ℕ) (words : List ℕ)
    → length (high_lows words high) ≡ ones words (4 * high + 0) + ones words (4 * high + 1) + ones words (4 * high + 2) + ones words (4 * high + 3)
lows_counted high words =
    let part : List ℕ = take 4 (drop (4 * high) words) in
    let whole = ap length (part_lows high words) in
    let none = no_bits part in
    let a = ones_counted_more part 0 in
    let b = ones_counted_more part 1 in
    let c = ones_counted_more part 2 in
    let d = ones_counted_more part 3 in
    let a' = part_word high 0 words (omega arith) in
    let b' = part_word high 1 words (omega arith) in
    let c' = part_word high 2 words (omega arith) in
    let d' = part_word high 3 words (omega arith) in
    omega arith

-- ---- words of 0

no_sum : bits [] ≡ 0
unfolding bits
no_sum = refl

none_zero : (w : ℕ) → w < 2 ^ 64 → length (ones_from w 0 64) ≡ 0 → w ≡ 0
none_zero w small e = sym (ones_all w 64 small) ∙ ap bits (nil_from_length (ones_from w 0 64) e) ∙ no_sum

zero_none : (w : ℕ) → w ≡ 0 → length (ones_from w 0 64) ≡ 0
zero_none w e = ap (λ (n : ℕ). length (ones_from n 0 64)) e ∙ ap length none_of_zero

or_bits : (a b i : ℕ) → bit_or a b ≡ 0 → (eqb (bit_at a i) 1 || eqb (bit_at b i) 1) ≡ false
or_bits a b i e = sym (word_or a b i) ∙ ap (λ (n : ℕ). eqb (bit_at n i) 1) e ∙ ap (λ (n : ℕ). eqb n 1) (bit_at-zero i)

or_right : (a b : ℕ) → b < 2 ^ 64 → bit_or a b ≡ 0 → b ≡ 0
unfolding ones_from
or_right a b small e =
    none_zero b small (ap length (those_none (λ i. eqb (bit_at b i) 1) 0 64 (λ x l m. (or_parts (eqb (bit_at a x) 1) (eqb (bit_at b x) 1) (or_bits a b x e)).1)))

or_left : (a b : ℕ) → b < 2 ^ 64 → bit_or a b ≡ 0 → a ≡ 0
or_left a b small e = sym (ap (bit_or a) (or_right a b small e) ∙ or_zero_r a) ∙ e

or_none : (a b : ℕ) → a ≡ 0 → b ≡ 0 → bit_or a b ≡ 0
or_none a b e f = ap (bit_or a) f ∙ or_zero_r a ∙ e

-- four words are not all 0 if they have some numbers
abbrev pub any_of : ℕ → List ℕ → ℕ
any_of at words = bit_or (bit_or (bit_or (get_or words at 0) (get_or words (at + 1) 0)) (get_or words (at + 2) 0)) (get_or words (at + 3) 0)

any_none : (high : ℕ) (words : List ℕ) → ((k : ℕ) → get_or words k 0 < 2 ^ 64) → any_of (4 * high) words ≡ 0 → length (high_lows words high) ≡ 0
any_none high words small e =
    let at : ℕ = 4 * high in
    let w : ℕ → ℕ = λ i. get_or words (at + i) 0 in
    let first : at + 0 ≡ at = omega arith in
    let d = or_right _ (w 3) (small (at + 3)) e in
    let e2 = or_left _ (w 3) (small (at + 3)) e in
    let c = or_right _ (w 2) (small (at + 2)) e2 in
    let e1 = or_left _ (w 2) (small (at + 2)) e2 in
    let b = or_right (get_or words at 0) (w 1) (small (at + 1)) e1 in
    let a = or_left (get_or words at 0) (w 1) (small (at + 1)) e1 in
    let a' : ones words (at + 0) ≡ 0 = zero_none (w 0) (ap (λ (k : ℕ). get_or words k 0) first ∙ a) in
    let b' : ones words (at + 1) ≡ 0 = zero_none (w 1) b in
    let c' : ones words (at + 2) ≡ 0 = zero_none (w 2) c in
    let d' : ones words (at + 3) ≡ 0 = zero_none (w 3) d in
    let all = lows_counted high words in
    omega arith

none_any : (high : ℕ) (words : List ℕ) → ((k : ℕ) → get_or words k 0 < 2 ^ 64) → length (high_lows words high) ≡ 0 → any_of (4 * high) words ≡ 0
none_any high words small e =
    let at : ℕ = 4 * high in
    let all = lows_counted high words in
    let first : at + 0 ≡ at = omega arith in
    let a : get_or words (at + 0) 0 ≡ 0 = none_zero _ (small (at + 0)) (omega arith) in
    let b : get_or words (at + 1) 0 ≡ 0 = none_zero _ (small (at + 1)) (omega arith) in
    let c : get_or words (at + 2) 0 ≡ 0 = none_zero _ (small (at + 2)) (omega arith) in
    let d : get_or words (at + 3) 0 ≡ 0 = none_zero _ (small (at + 3)) (omega arith) in
    or_none _ _ (or_none _ _ (or_none _ _ (sym (ap (λ (k : ℕ). get_or words k 0) first) ∙ a) b) c) d

pub any_some : (high : ℕ) (words : List ℕ) → ((k : ℕ) → get_or words k 0 < 2 ^ 64) → not (eqb (any_of (4 * high) words) 0) ≡ ltb 0 (length (high_lows words high))
any_some high words small = elim (cases_lt 0 (length (high_lows words high))) [
  | inl some ↦
      ap not (ne_eqb (any_of (4 * high) words) 0 (λ e. let none = any_none high words small e in absurd (omega arith))) ∙ sym (lt-ltb 0 (length (high_lows words high)) some)
  | inr few ↦
      ap not (eq-eqb (any_of (4 * high) words) 0 (none_any high words small (omega arith))) ∙ sym (le-ltb 0 (length (high_lows words high)) few)
]

-- ---- a bit is set if a condition holds

bit_same : (b : Bool) (x i : ℕ) → i < 64 → bit_at x i ≡ 0 → eqb (bit_at (bit_or x (bool_byte b * 2 ^ i % 2 ^ 64)) i) 1 ≡ b
bit_same true x i h none = ap (λ (n : ℕ). eqb n 1) (bit_at_set_same w64 x i h)
bit_same false x i h none =
    let zero' : 0 * 2 ^ i % 2 ^ 64 ≡ 0 = ap (λ (n : ℕ). n % 2 ^ 64) (zero-mul (2 ^ i)) in
    ap (λ (n : ℕ). eqb (bit_at (bit_or x n) i) 1) zero' ∙ ap (λ (n : ℕ). eqb (bit_at n i) 1) (or_zero_r x) ∙ ap (λ (n : ℕ). eqb n 1) none

bit_other : (b : Bool) (x i k : ℕ) → i < 64 → k ≢ i → bit_at (bit_or x (bool_byte b * 2 ^ i % 2 ^ 64)) k ≡ bit_at x k
bit_other true x i k h apart = bit_at_set_other w64 x i h k apart
bit_other false x i k h apart =
    let zero' : 0 * 2 ^ i % 2 ^ 64 ≡ 0 = ap (λ (n : ℕ). n % 2 ^ 64) (zero-mul (2 ^ i)) in
    ap (λ (n : ℕ). bit_at (bit_or x n) k) zero' ∙ ap (λ (n : ℕ). bit_at n k) (or_zero_r x)

-- the bits below one say what holds there, and those from it on are 0
pub record AreHighs (words : List ℕ) (first i x : ℕ) : Type 0 where
  pub below : (k : ℕ) → k < i → eqb (bit_at x k) 1 ≡ ltb 0 (length (high_lows words (first + k)))
  pub above : (k : ℕ) → i ≤ k → bit_at x k ≡ 0

pub highs_start : (words : List ℕ) (first : ℕ) → AreHighs words first 0 0
highs_start words first = record { below = λ k lt. absurd (omega arith); above = λ k le. bit_at-zero k }

pub highs_more : (words : List ℕ) (first i x : ℕ) → ((k : ℕ) → get_or words k 0 < 2 ^ 64) → i < 64 → AreHighs words first i x
    → AreHighs words first (i + 1) (bit_or x (bool_byte (not (eqb (any_of (4 * (first + i)) words) 0)) * 2 ^ i % 2 ^ 64))
highs_more words first i x small h before =
    let b : Bool = not (eqb (any_of (4 * (first + i)) words) 0) in
    let new : ℕ = bit_or x (bool_byte b * 2 ^ i % 2 ^ 64) in
    record {
      below = λ k lt. elim (cases_eq k i) [
        | inl here ↦
            ap (λ (n : ℕ). eqb (bit_at new n) 1) here ∙ bit_same b x i h (before.above i (omega arith)) ∙ any_some (first + i) words small
            ∙ sym (ap (λ (n : ℕ). ltb 0 (length (high_lows words (first + n)))) here)
        | inr apart ↦ ap (λ (n : ℕ). eqb n 1) (bit_other b x i k h apart) ∙ before.below k (let other = apart in omega arith)
      ];
      above = λ k le. bit_other b x i k h (λ e. omega arith) ∙ before.above k (omega arith);
    }

-- ---- four words

abbrev pub IsHigh : List ℕ → ℕ → ℕ → Type 0
IsHigh words first word = (i : ℕ) → i < 64 → eqb (bit_at word i) 1 ≡ ltb 0 (length (high_lows words (first + i)))

at_word : (words : List ℕ) (r s t u : ℕ) → IsHigh words 0 r → IsHigh words 64 s → IsHigh words 128 t → IsHigh words 192 u
    → (q : ℕ) → q < 4 → IsHigh words (64 * q) (get_or (r ∷ s ∷ t ∷ u ∷ []) q 0)
at_word words r s t u a b c d zero h = a
at_word words r s t u a b c d (suc zero) h = b
at_word words r s t u a b c d (suc (suc zero)) h = c
at_word words r s t u a b c d (suc (suc (suc zero))) h = d
at_word words r s t u a b c d (suc (suc (suc (suc q)))) h = absurd (omega arith)

pub four_highs : (words : List ℕ) (r s t u : ℕ) → IsHigh words 0 r → IsHigh words 64 s → IsHigh words 128 t → IsHigh words 192 u
    → (high : ℕ) → high < 256 → has_bit (r ∷ s ∷ t ∷ u ∷ []) high ≡ ltb 0 (length (high_lows words high))
unfolding has_bit
four_highs words r s t u a b c d high small =
    let split : 64 * (high / 64) + high % 64 ≡ high = omega arith in
    at_word words r s t u a b c d (high / 64) (omega arith) (high % 64) (omega arith) ∙ ap (λ (n : ℕ). ltb 0 (length (high_lows words n))) split
