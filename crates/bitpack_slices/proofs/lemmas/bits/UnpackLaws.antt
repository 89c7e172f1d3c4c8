-- The numbers of bitmaps, by high byte, and what is written of them.
use Rattle.std.proofs.Common.{◌≡◌, ℕ, zero, suc, ◌+◌, ◌*◌, ◌/◌, ◌-◌, ◌<◌, ◌≤◌, Bool, false, ◌||◌, ◌&&◌, List, [], ◌∷◌, ◌++◌, map, take, drop, length, get_or, refl, sym, ap, ◌∙◌, arith, inl, inr, lit≤, length-append, eq-eqb}
use Rattle.std.specs.List.{filter, range_with_len}
use Rattle.std.proofs.lemmas.Bool.{cases_lt, ne_eqb}
use Rattle.std.proofs.lemmas.List.{drop_all, drop_more, length-map, map-append}
use Rattle.bitpack_slices.proofs.lemmas.bits.BitmapLaws.{has_part, those_few, those_more, those_none, those_raised, those_split}
use Rattle.bitpack_slices.proofs.lemmas.bodies.LoadLaws.{filtered_same}
use Rattle.bitpack_slices.proofs.lemmas.bits.OnesLaws.{rising_lower}
use Rattle.bitpack_slices.proofs.lemmas.bits.RaisedLaws.{map_raised}
use Rattle.bitpack_slices.proofs.lemmas.bodies.ReadLaws.{has_below}
use Rattle.bitpack_slices.proofs.lemmas.slices.SliceLaws.{rising_room}
use Rattle.bitpack_slices.specs.Bitmaps.{has_bit}
use Rattle.bitpack_slices.specs.Operations.{those}
use Rattle.bitpack_slices.specs.Reads.{has}
use Rattle.bitpack_slices.specs.Bodies.{IsRising}
use Rattle.bitpack_slices.specs.Slices.{ones_from}

-- the numbers of one word more
pub bits_more : (base q : ℕ) (words : List ℕ)
    → map (λ i. base + i) (those (64 * (q + 1)) (has_bit words))
    ≡ map (λ i. base + i) (those (64 * q) (has_bit words)) ++ map (λ i. base + 64 * q + i) (ones_from (get_or words q 0) 0 64)
bits_more base q words =
    let e : 64 * (q + 1) ≡ 64 * q + 64 = omega arith in
    let word = ones_from (get_or words q 0) 0 64 in
    ap (λ (n : ℕ). map (λ i. base + i) (those n (has_bit words))) e
    ∙ ap (map (λ i. base + i)) (those_more words q 64 (lit≤ tt))
    ∙ map-append (λ i. base + i) (those (64 * q) (has_bit words)) (map (λ i. 64 * q + i) word)
    ∙ ap (λ (l : List ℕ). map (λ i. base + i) (those (64 * q) (has_bit words)) ++ l) (map_raised base (64 * q) word)

-- ---- by high byte

-- the numbers of one high byte that pass a test, without it
abbrev pub lows : (ℕ → Bool) → ℕ → List ℕ
lows P high = those 256 (λ i. P (256 * high + i))

abbrev pub by_high : (ℕ → Bool) → List ℕ → List ℕ
by_high P [] = []
by_high P (high ∷ highs) = map (λ i. 256 * high + i) (lows P high) ++ by_high P highs

one_high : (P : ℕ → Bool) (high : ℕ) → filter P (range_with_len (256 * high) 256) ≡ map (λ i. 256 * high + i) (lows P high)
unfolding those
one_high P high =
    let e : 256 * high ≡ 256 * high + 0 = omega arith in
    ap (λ (n : ℕ). filter P (range_with_len n 256)) e ∙ those_raised P (256 * high) 0 256

here : (P : ℕ → Bool) (high low x : ℕ) (highs : List ℕ) → high ≡ low → 256 * low ≤ x → x < 256 * low + 256 → (has (x / 256) (high ∷ highs) && P x) ≡ P x
here P high low x highs e a b =
    ap (λ (c : Bool). (c || has (x / 256) highs) && P x) (eq-eqb high (x / 256) (omega arith))

later : (P : ℕ → Bool) (high low x : ℕ) (highs : List ℕ) → high ≡ low → 256 * (low + 1) ≤ x
    → (has (x / 256) (high ∷ highs) && P x) ≡ (has (x / 256) highs && P x)
later P high low x highs e a =
    ap (λ (c : Bool). (c || has (x / 256) highs) && P x) (ne_eqb high (x / 256) (λ s. omega arith))

before : (P : ℕ → Bool) (high low x : ℕ) (highs : List ℕ) → low < high → IsRising (high + 1) 256 highs → x < 256 * low + 256
    → (has (x / 256) (high ∷ highs) && P x) ≡ false
before P high low x highs less r b =
    ap (λ (c : Bool). c && P x) (has_below (x / 256) high 256 (high ∷ highs) (omega arith, r) (omega arith))

numbers_from : (P : ℕ → Bool) (low n : ℕ) (highs : List ℕ) → low + n ≡ 256 → IsRising low 256 highs
    → filter (λ x. has (x / 256) highs && P x) (range_with_len (256 * low) (256 * n)) ≡ by_high P highs
numbers_from P low zero [] e r = refl
numbers_from P low zero (high ∷ highs) e (a, r) = let room = rising_room (high + 1) 256 highs r in absurd (omega arith)
numbers_from P low (suc n) [] e r = those_none (λ x. has (x / 256) [] && P x) (256 * low) (256 * suc n) (λ x a b. refl)
numbers_from P low (suc n) (high ∷ highs) e (a, r) =
    let p : ℕ → Bool = λ x. has (x / 256) (high ∷ highs) && P x in
    let size : 256 * suc n ≡ 256 + 256 * n = omega arith in
    let next : 256 * low + 256 ≡ 256 * (low + 1) = omega arith in
    let split = ap (λ (k : ℕ). filter p (range_with_len (256 * low) k)) size ∙ those_split p (256 * low) 256 (256 * n)
    ∙ ap (λ (k : ℕ). filter p (range_with_len (256 * low) 256) ++ filter p (range_with_len k (256 * n))) next in
    split ∙ elim (cases_lt low high) [
      | inl less ↦
          ap (λ (l : List ℕ). l ++ filter p (range_with_len (256 * (low + 1)) (256 * n)))
          (those_none p (256 * low) 256 (λ x b d. before P high low x highs less r d))
          ∙ numbers_from P (low + 1) n (high ∷ highs) (omega arith) (omega arith, r)
      | inr more ↦ (
          let same : high ≡ low = omega arith in
          ap (λ (l : List ℕ). l ++ filter p (range_with_len (256 * (low + 1)) (256 * n)))
          (filtered_same p P (256 * low) 256 (λ x b d. here P high low x highs same b d) ∙ one_high P low
          ∙ ap (λ (k : ℕ). map (λ i. 256 * k + i) (lows P k)) (sym same))
          ∙ ap (λ (l : List ℕ). map (λ i. 256 * high + i) (lows P high) ++ l)
          (filtered_same p (λ x. has (x / 256) highs && P x) (256 * (low + 1)) (256 * n) (λ x b d. later P high low x highs same b)
          ∙ numbers_from P (low + 1) n highs (omega arith) (rising_lower (high + 1) (low + 1) 256 highs (omega arith) r)))
    ]

pub those_by_high : (P : ℕ → Bool) (highs : List ℕ) → IsRising 0 256 highs → those 65536 (λ x. has (x / 256) highs && P x) ≡ by_high P highs
unfolding those
those_by_high P highs r = numbers_from P 0 256 highs refl r

-- the numbers of one high byte more
pub high_more : (P : ℕ → Bool) (base i : ℕ) (highs : List ℕ) → i < length highs
    → map (λ j. base + j) (by_high P (drop i highs))
    ≡ map (λ j. base + 256 * get_or highs i 0 + j) (lows P (get_or highs i 0)) ++ map (λ j. base + j) (by_high P (drop (i + 1) highs))
high_more P base i highs h =
    let high = get_or highs i 0 in
    let rest = by_high P (drop (i + 1) highs) in
    ap (λ (l : List ℕ). map (λ j. base + j) (by_high P l)) (drop_more highs i 0 h)
    ∙ map-append (λ j. base + j) (map (λ j. 256 * high + j) (lows P high)) rest
    ∙ ap (λ (l : List ℕ). l ++ map (λ j. base + j) rest) (map_raised base (256 * high) (lows P high))

pub high_counted : (P : ℕ → Bool) (i : ℕ) (highs : List ℕ) → i < length highs
    → length (by_high P (drop i highs)) ≡ length (lows P (get_or highs i 0)) + length (by_high P (drop (i + 1) highs))
high_counted P i highs h =
    let high = get_or highs i 0 in
    ap (λ (l : List ℕ). length (by_high P l)) (drop_more highs i 0 h)
    ∙ length-append (map (λ j. 256 * high + j) (lows P high)) (by_high P (drop (i + 1) highs))
    ∙ ap (λ (n : ℕ). n + length (by_high P (drop (i + 1) highs))) (length-map (lows P high) (λ j. 256 * high + j))

pub highs_done : (P : ℕ → Bool) (i : ℕ) (highs : List ℕ) → length highs ≤ i → by_high P (drop i highs) ≡ []
highs_done P i highs h = ap (by_high P) (drop_all i highs h)

pub numbers_few : (P : ℕ → Bool) (highs : List ℕ) → IsRising 0 256 highs → length (by_high P highs) ≤ 65536
numbers_few P highs r =
    let same = ap length (those_by_high P highs r) in
    let few = those_few 65536 (λ x. has (x / 256) highs && P x) in
    omega arith

-- the words of a high byte as they are cut
pub lows_cut : (high : ℕ) (words : List ℕ) → those 256 (has_bit (take (4 * high + 4 - 4 * high) (drop (4 * high) words))) ≡ lows (has_bit words) high
unfolding those
lows_cut high words =
    let four : 4 * high + 4 - 4 * high ≡ 4 = omega arith in
    ap (λ (n : ℕ). those 256 (has_bit (take n (drop (4 * high) words)))) four
    ∙ filtered_same (has_bit (take 4 (drop (4 * high) words))) (λ i. has_bit words (256 * high + i)) 0 256 (λ x a b. has_part words high x b)
