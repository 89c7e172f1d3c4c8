-- High bytes that are bits of a word, from the lowest on.
use Rattle.std.proofs.Common.{◌≡◌, ℕ, ◌+◌, ◌*◌, ◌/◌, ◌%◌, ◌^◌, ◌<◌, ◌≤◌, Bool, true, false, ◌&&◌, eqb, List, [], ◌∷◌, ◌++◌, map, length, get_or, refl, sym, ap, ◌∙◌, arith, cond, append_assoc, lit≤}
use Rattle.std.specs.Int.{bit_at, trailing_zeros}
use Rattle.std.specs.List.{filter, range_with_len}
use Rattle.std.proofs.lemmas.Bool.{and_parts}
use Rattle.bitpack_slices.proofs.lemmas.bits.BitmapLaws.{has_of, those_more}
use Rattle.bitpack_slices.proofs.lemmas.bits.CombineLaws.{word_and}
use Rattle.bitpack_slices.proofs.lemmas.bits.FourLaws.{cleared, next_is}
use Rattle.bitpack_slices.proofs.lemmas.bodies.LoadLaws.{those_rise}
use Rattle.bitpack_slices.proofs.lemmas.bits.OnesLaws.{none_of_zero, ones_rise, rising_lower}
use Rattle.bitpack_slices.proofs.lemmas.bits.RaisedLaws.{rising_raised}
use Rattle.bitpack_slices.proofs.lemmas.bits.UnpackLaws.{by_high, high_counted, high_more, lows, those_by_high}
use Rattle.bitpack_slices.specs.Bitmaps.{has_bit}
use Rattle.bitpack_slices.specs.Operations.{those}
use Rattle.bitpack_slices.specs.Reads.{has}
use Rattle.bitpack_slices.specs.Selections.{word_highs}
use Rattle.bitpack_slices.specs.Bodies.{IsRising}
use Rattle.bitpack_slices.specs.Slices.{ones_from}
use mir.Syntax.{w64}

rising_top : (low high top : ℕ) (xs : List ℕ) → high ≤ top → IsRising low high xs → IsRising low top xs
rising_top low high top [] h r = omega arith
rising_top low high top (x ∷ xs) h (a, r) = (a, rising_top (x + 1) high top xs h r)

-- the high bytes of a word rise, and their numbers are those of each in turn
highs_rise : (first word : ℕ) → first + 64 ≤ 256 → IsRising 0 256 (word_highs first word)
highs_rise first word h =
    rising_lower (first + 0) 0 256 (word_highs first word) (omega arith)
    (rising_top (first + 0) (first + 64) 256 (word_highs first word) h (rising_raised first 0 64 (ones_from word 0 64) (ones_rise word 0 64)))

pub word_numbers : (P : ℕ → Bool) (first word : ℕ) → first + 64 ≤ 256 → those 65536 (λ x. has (x / 256) (word_highs first word) && P x) ≡ by_high P (word_highs first word)
word_numbers P first word h = those_by_high P (word_highs first word) (highs_rise first word h)

-- ---- the lowest bit that is left

pub no_high_left : (P : ℕ → Bool) (first left : ℕ) → left ≡ 0 → by_high P (word_highs first left) ≡ []
no_high_left P first left e = ap (λ (n : ℕ). by_high P (word_highs first n)) e ∙ ap (λ (l : List ℕ). by_high P (map (λ i. first + i) l)) none_of_zero

-- bits that are left are bits of the word
pub still_there : (left word : ℕ) → ((k : ℕ) → eqb (bit_at left k) 1 ≡ true → eqb (bit_at word k) 1 ≡ true)
    → (k : ℕ) → eqb (bit_at (cleared left) k) 1 ≡ true → eqb (bit_at word k) 1 ≡ true
still_there left word there k e = there k (and_parts _ _ (sym (word_and left _ k) ∙ e)).0

module _ (P : ℕ → Bool) (first left : ℕ) (some : 0 < left) (small : left < 2 ^ 64) where
  abbrev lowest : ℕ
  lowest = first + trailing_zeros w64 left

  rest_is : word_highs first left ≡ lowest ∷ word_highs first (cleared left)
  rest_is = let next = next_is left some small in ap (map (λ i. first + i)) next.ones

  pub word_written : (base : ℕ)
      → map (λ j. base + j) (by_high P (word_highs first left)) ≡ map (λ j. base + 256 * lowest + j) (lows P lowest) ++ map (λ j. base + j) (by_high P (word_highs first (cleared left)))
  word_written base = ap (λ (l : List ℕ). map (λ j. base + j) (by_high P l)) rest_is ∙ high_more P base 0 (lowest ∷ word_highs first (cleared left)) (omega arith)

  pub word_counted : length (by_high P (word_highs first left)) ≡ length (lows P lowest) + length (by_high P (word_highs first (cleared left)))
  word_counted = ap (λ (l : List ℕ). length (by_high P l)) rest_is ∙ high_counted P 0 (lowest ∷ word_highs first (cleared left)) (omega arith)

-- ---- word by word

by_high_append : (P : ℕ → Bool) (xs ys : List ℕ) → by_high P (xs ++ ys) ≡ by_high P xs ++ by_high P ys
by_high_append P [] ys = refl
by_high_append P (x ∷ xs) ys =
    ap (λ (l : List ℕ). map (λ i. 256 * x + i) (lows P x) ++ l) (by_high_append P xs ys)
    ∙ sym (append_assoc (map (λ i. 256 * x + i) (lows P x)) (by_high P xs) (by_high P ys))

pub words_more : (P : ℕ → Bool) (occur : List ℕ) (q : ℕ)
    → by_high P (those (64 * (q + 1)) (has_bit occur)) ≡ by_high P (those (64 * q) (has_bit occur)) ++ by_high P (word_highs (64 * q) (get_or occur q 0))
words_more P occur q =
    let e : 64 * (q + 1) ≡ 64 * q + 64 = omega arith in
    ap (λ (n : ℕ). by_high P (those n (has_bit occur))) e ∙ ap (by_high P) (those_more occur q 64 (lit≤ tt))
    ∙ by_high_append P (those (64 * q) (has_bit occur)) (word_highs (64 * q) (get_or occur q 0))

fewer_pass : (b c : Bool) (x : ℕ) (xs ys : List ℕ) → length xs ≤ length ys → length (cond (b && c) (x ∷ xs) xs) ≤ length (cond c (x ∷ ys) ys)
fewer_pass true true x xs ys h = omega arith
fewer_pass true false x xs ys h = h
fewer_pass false true x xs ys h = omega arith
fewer_pass false false x xs ys h = h

some_pass : (Q P : ℕ → Bool) (xs : List ℕ) → length (filter (λ x. Q x && P x) xs) ≤ length (filter P xs)
some_pass Q P [] = omega arith
some_pass Q P (x ∷ xs) = fewer_pass (Q x) (P x) x (filter (λ x. Q x && P x) xs) (filter P xs) (some_pass Q P xs)

-- some high bytes have at most all numbers
some_few : (P : ℕ → Bool) (highs : List ℕ) → IsRising 0 256 highs → length (by_high P highs) ≤ length (those 65536 P)
unfolding those
some_few P highs rise =
    let e = ap length (those_by_high P highs rise) in
    let few = some_pass (λ x. has (x / 256) highs) P (range_with_len 0 65536) in
    omega arith

pub highs_few : (P : ℕ → Bool) (first word : ℕ) → first + 64 ≤ 256 → length (by_high P (word_highs first word)) ≤ length (those 65536 P)
highs_few P first word h = some_few P (word_highs first word) (highs_rise first word h)

pub words_few : (P : ℕ → Bool) (occur : List ℕ) (bound : ℕ) → bound ≤ 256 → length (by_high P (those bound (has_bit occur))) ≤ length (those 65536 P)
words_few P occur bound h = some_few P (those bound (has_bit occur)) (rising_top 0 bound 256 (those bound (has_bit occur)) h (those_rise (has_bit occur) bound))

-- the bit of a word is the bit of its high byte
pub bit_in_word : (occur : List ℕ) (q i : ℕ) → i < 64 → eqb (bit_at (get_or occur q 0) i) 1 ≡ has_bit occur (64 * q + i)
bit_in_word occur q i lt =
    let rest : (64 * q + i) % 64 ≡ i = omega arith in
    sym (has_of occur q (64 * q + i) (omega arith) ∙ ap (λ (k : ℕ). eqb (bit_at (get_or occur q 0) k) 1) rest)
