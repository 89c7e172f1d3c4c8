-- The bits of words, and the numbers whose bits are 1.
use Rattle.std.proofs.Common.{◌≡◌, ◌≢◌, ℕ, zero, suc, ◌+◌, ◌*◌, ◌/◌, ◌%◌, ◌^◌, ◌-◌, ◌<◌, ◌≤◌, Bool, true, false, ◌||◌, eqb, List, [], ◌∷◌, ◌++◌, map, take, drop, set, replicate, length, refl, sym, ap, ◌∙◌, arith, cond, inl, inr, get_or, bit_and, bit_or, eq-eqb, length-append, length-drop, lit≤, w64}
use Rattle.std.specs.Int.{bit_at}
use Rattle.std.specs.Int.RustNames.{count_ones}
use Rattle.std.specs.List.{filter, range_with_len}
use Rattle.std.proofs.lemmas.Bool.{cases_eq, ne_eqb, true≢false}
use Rattle.std.proofs.lemmas.List.{get_or-drop, get_or-set_other, get_or-set_same, get_or-take, length-map, length-take-le, take_more}
use Rattle.std.proofs.lemmas.List.Elements.{filter-append}
use Rattle.std.proofs.lemmas.Nat.Bits.{bit_at-zero, bit_at_ones, bit_at_set_other, bit_at_set_same, shr_and_one}
use Rattle.std.proofs.lemmas.Nat.{and_mask, one_shl}
use Rattle.bitpack_slices.proofs.lemmas.bits.CountLaws.{ones_counted, ones_length}
use Rattle.bitpack_slices.proofs.lemmas.bytes.DecodeLaws.{bytes_dropped}
use Rattle.bitpack_slices.proofs.lemmas.bodies.LoadLaws.{eqb_turned, filtered_same}
use Rattle.bitpack_slices.proofs.lemmas.bodies.ReadLaws.{bit_of_bytes, has_all, has_append, has_bit as bits_bit}
use Rattle.bitpack_slices.proofs.lemmas.slices.SliceLaws.{rising_room}
use Rattle.bitpack_slices.proofs.lemmas.bodies.TestLaws.{bytes_taken}
use Rattle.bitpack_slices.proofs.lemmas.bytes.Bytes.{EachByte}
use Rattle.bitpack_slices.proofs.lemmas.bits.WriteLaws.{rising_take}
use Rattle.bitpack_slices.specs.Bitmaps.{has_bit}
use Rattle.bitpack_slices.specs.Operations.{those}
use Rattle.bitpack_slices.specs.Reads.{has}
use Rattle.bitpack_slices.specs.Bodies.{IsRising}
use Rattle.bitpack_slices.specs.Slices.{number_of, ones_from}

-- ---- the bits of words

pub test_is : (words : List ℕ) (i : ℕ) → eqb (bit_and (get_or words (i / 64) 0 / 2 ^ (i % 64)) 1) 1 ≡ has_bit words i
unfolding has_bit
test_is words i = ap (λ (n : ℕ). eqb n 1) (shr_and_one (get_or words (i / 64) 0) (i % 64))

-- a word is replaced: its bits, and the others
pub has_written : (words : List ℕ) (q v k : ℕ) → q < length words → k / 64 ≡ q → has_bit (set words q v) k ≡ eqb (bit_at v (k % 64)) 1
unfolding has_bit
has_written words q v k h e =
    ap (λ (j : ℕ). eqb (bit_at (get_or (set words q v) j 0) (k % 64)) 1) e ∙ ap (λ (w : ℕ). eqb (bit_at w (k % 64)) 1) (get_or-set_same words q v 0 h)

pub has_unchanged : (words : List ℕ) (q v k : ℕ) → k / 64 ≢ q → has_bit (set words q v) k ≡ has_bit words k
unfolding has_bit
has_unchanged words q v k ne = ap (λ (w : ℕ). eqb (bit_at w (k % 64)) 1) (get_or-set_other words q (k / 64) v 0 ne)

-- the bit of a word that is known by its position
pub has_of : (words : List ℕ) (q k : ℕ) → k / 64 ≡ q → has_bit words k ≡ eqb (bit_at (get_or words q 0) (k % 64)) 1
unfolding has_bit
has_of words q k e = ap (λ (j : ℕ). eqb (bit_at (get_or words j 0) (k % 64)) 1) e

or_true : (b c : Bool) → b ≡ true → (b || c) ≡ true
or_true b c h = ap (λ (d : Bool). d || c) h

pub set_is : (words : List ℕ) (i k : ℕ) → i < 64 * length words
    → has_bit (set words (i / 64) (bit_or (get_or words (i / 64) 0) (1 * 2 ^ (i % 64) % 2 ^ 64))) k ≡ (eqb k i || has_bit words k)
set_is words i k h = elim (cases_eq (k / 64) (i / 64)) [
  | inl here ↦ elim (cases_eq (k % 64) (i % 64)) [
    | inl same ↦
        has_written words (i / 64) (bit_or (get_or words (i / 64) 0) (1 * 2 ^ (i % 64) % 2 ^ 64)) k (omega arith) here
        ∙ ap (λ (r : ℕ). eqb (bit_at (bit_or (get_or words (i / 64) 0) (1 * 2 ^ (i % 64) % 2 ^ 64)) r) 1) same
        ∙ ap (λ (n : ℕ). eqb n 1) (bit_at_set_same w64 (get_or words (i / 64) 0) (i % 64) (omega arith))
        ∙ sym (or_true (eqb k i) (has_bit words k) (eq-eqb k i (omega arith)))
    | inr other ↦
        has_written words (i / 64) (bit_or (get_or words (i / 64) 0) (1 * 2 ^ (i % 64) % 2 ^ 64)) k (omega arith) here
        ∙ ap (λ (n : ℕ). eqb n 1) (bit_at_set_other w64 (get_or words (i / 64) 0) (i % 64) (omega arith) (k % 64) other)
        ∙ sym (has_of words (i / 64) k here)
        ∙ sym (ap (λ (b : Bool). b || has_bit words k) (ne_eqb k i (λ e. other (ap (λ (n : ℕ). n % 64) e))))
  ]
  | inr there ↦
      has_unchanged words (i / 64) (bit_or (get_or words (i / 64) 0) (1 * 2 ^ (i % 64) % 2 ^ 64)) k there
      ∙ sym (ap (λ (b : Bool). b || has_bit words k) (ne_eqb k i (λ e. there (ap (λ (n : ℕ). n / 64) e))))
]

-- no bit of words of 0 is 1
pub zero_at : (n q : ℕ) → ◌≡◌ {A = ℕ} (get_or (replicate n 0) q 0) 0
zero_at zero q = refl
zero_at (suc n) zero = refl
zero_at (suc n) (suc q) = zero_at n q

pub has_none : (n k : ℕ) → has_bit (replicate n 0) k ≡ false
unfolding has_bit
has_none n k = ap (λ (w : ℕ). eqb (bit_at w (k % 64)) 1) (zero_at n (k / 64)) ∙ ap (λ (b : ℕ). eqb b 1) (bit_at-zero (k % 64))

-- ---- the numbers that pass a test

pub range_cat : (a n m : ℕ) → range_with_len a (n + m) ≡ range_with_len a n ++ range_with_len (a + n) m
range_cat a zero m =
    let e : zero + m ≡ m = omega arith in
    let f : a ≡ a + zero = omega arith in
    ap (range_with_len a) e ∙ ap (λ (b : ℕ). range_with_len b m) f
range_cat a (suc n) m =
    let e : suc n + m ≡ suc (n + m) = omega arith in
    let f : a + 1 + n ≡ a + suc n = omega arith in
    ap (range_with_len a) e ∙ ap (λ (l : List ℕ). a ∷ l) (range_cat (a + 1) n m ∙ ap (λ (b : ℕ). range_with_len (a + 1) n ++ range_with_len b m) f)

pub those_split : (passes : ℕ → Bool) (a n m : ℕ)
    → filter passes (range_with_len a (n + m)) ≡ filter passes (range_with_len a n) ++ filter passes (range_with_len (a + n) m)
those_split passes a n m = ap (filter passes) (range_cat a n m) ∙ filter-append passes (range_with_len a n) (range_with_len (a + n) m)

raise_one : (b : Bool) (k a : ℕ) (xs ys : List ℕ) → xs ≡ map (λ i. k + i) ys → cond b ((k + a) ∷ xs) xs ≡ map (λ i. k + i) (cond b (a ∷ ys) ys)
raise_one true k a xs ys e = ap (λ (l : List ℕ). (k + a) ∷ l) e
raise_one false k a xs ys e = e

pub those_raised : (passes : ℕ → Bool) (k a n : ℕ) → filter passes (range_with_len (k + a) n) ≡ map (λ i. k + i) (filter (λ i. passes (k + i)) (range_with_len a n))
those_raised passes k a zero = refl
those_raised passes k a (suc n) =
    let next : k + a + 1 ≡ k + (a + 1) = omega arith in
    raise_one (passes (k + a)) k a (filter passes (range_with_len (k + a + 1) n)) (filter (λ i. passes (k + i)) (range_with_len (a + 1) n))
    (ap (λ (b : ℕ). filter passes (range_with_len b n)) next ∙ those_raised passes k (a + 1) n)

pub those_none : (passes : ℕ → Bool) (a n : ℕ) → ((x : ℕ) → a ≤ x → x < a + n → passes x ≡ false) → filter passes (range_with_len a n) ≡ []
those_none passes a zero h = refl
those_none passes a (suc n) h =
    ap (λ (b : Bool). cond b (a ∷ filter passes (range_with_len (a + 1) n)) (filter passes (range_with_len (a + 1) n))) (h a (omega arith) (omega arith))
    ∙ those_none passes (a + 1) n (λ x l m. h x (omega arith) (omega arith))

few_more : (b : Bool) (a n : ℕ) (xs : List ℕ) → length xs ≤ n → length (cond b (a ∷ xs) xs) ≤ suc n
few_more true a n xs h = omega arith
few_more false a n xs h = omega arith

pub few_pass : (passes : ℕ → Bool) (a n : ℕ) → length (filter passes (range_with_len a n)) ≤ n
few_pass passes a zero = omega arith
few_pass passes a (suc n) = few_more (passes a) a n (filter passes (range_with_len (a + 1) n)) (few_pass passes (a + 1) n)

pub those_few : (bound : ℕ) (passes : ℕ → Bool) → length (those bound passes) ≤ bound
unfolding those
those_few bound passes = few_pass passes 0 bound

pub those_on : (passes : ℕ → Bool) (a n : ℕ) → length (those (a + n) passes) ≡ length (those a passes) + length (those n (λ i. passes (a + i)))
unfolding those
those_on passes a n =
    let first : 0 + a ≡ a + 0 = omega arith in
    let front : List ℕ = filter passes (range_with_len 0 a) in
    let later : List ℕ = filter (λ i. passes (a + i)) (range_with_len 0 n) in
    ap length (those_split passes 0 a n ∙ ap (λ (k : ℕ). front ++ filter passes (range_with_len k n)) first
    ∙ ap (λ (l : List ℕ). front ++ l) (those_raised passes a 0 n))
    ∙ length-append front (map (λ i. a + i) later) ∙ ap (λ (k : ℕ). length front + k) (length-map later (λ i. a + i))

-- the numbers of a word
pub word_numbers : (words : List ℕ) (q r : ℕ) → r ≤ 64
    → filter (has_bit words) (range_with_len (64 * q) r) ≡ map (λ i. 64 * q + i) (ones_from (get_or words q 0) 0 r)
unfolding ones_from
word_numbers words q r h =
    let e : 64 * q ≡ 64 * q + 0 = omega arith in
    ap (λ (k : ℕ). filter (has_bit words) (range_with_len k r)) e ∙ those_raised (has_bit words) (64 * q) 0 r
    ∙ ap (map (λ i. 64 * q + i)) (filtered_same (λ i. has_bit words (64 * q + i)) (λ i. eqb (bit_at (get_or words q 0) i) 1) 0 r (λ x l m.
    let position : (64 * q + x) % 64 ≡ x = omega arith in
    has_of words q (64 * q + x) (omega arith) ∙ ap (λ (k : ℕ). eqb (bit_at (get_or words q 0) k) 1) position))

pub those_more : (words : List ℕ) (q r : ℕ) → r ≤ 64
    → those (64 * q + r) (has_bit words) ≡ those (64 * q) (has_bit words) ++ map (λ i. 64 * q + i) (ones_from (get_or words q 0) 0 r)
unfolding those
those_more words q r h =
    let e : 0 + 64 * q ≡ 64 * q = omega arith in
    those_split (has_bit words) 0 (64 * q) r
    ∙ ap (λ (k : ℕ). filter (has_bit words) (range_with_len 0 (64 * q)) ++ filter (has_bit words) (range_with_len k r)) e
    ∙ ap (λ (l : List ℕ). filter (has_bit words) (range_with_len 0 (64 * q)) ++ l) (word_numbers words q r h)

pub those_counted : (words : List ℕ) (q r : ℕ) → r ≤ 64
    → length (those (64 * q + r) (has_bit words)) ≡ length (those (64 * q) (has_bit words)) + length (ones_from (get_or words q 0) 0 r)
those_counted words q r h =
    ap length (those_more words q r h) ∙ length-append (those (64 * q) (has_bit words)) (map (λ i. 64 * q + i) (ones_from (get_or words q 0) 0 r))
    ∙ ap (λ (n : ℕ). length (those (64 * q) (has_bit words)) + n) (length-map (ones_from (get_or words q 0) 0 r) (λ i. 64 * q + i))

-- one word more is counted
pub ones_counted_more : (words : List ℕ) (q : ℕ)
    → length (those (64 * (q + 1)) (has_bit words)) ≡ length (those (64 * q) (has_bit words)) + length (ones_from (get_or words q 0) 0 64)
ones_counted_more words q =
    let e : 64 * (q + 1) ≡ 64 * q + 64 = omega arith in
    ap (λ (n : ℕ). length (those n (has_bit words))) e ∙ those_counted words q 64 (lit≤ tt)

pub word_counted : (words : List ℕ) (q : ℕ) → get_or words q 0 < 2 ^ 64
    → length (those (64 * (q + 1)) (has_bit words)) ≡ length (those (64 * q) (has_bit words)) + count_ones (get_or words q 0)
word_counted words q small =
    ones_counted_more words q ∙ ap (λ (n : ℕ). length (those (64 * q) (has_bit words)) + n) (ones_counted (get_or words q 0) 64 small)

-- and the lower bits of a word
pub bits_counted_below : (words : List ℕ) (i : ℕ)
    → length (those i (has_bit words)) ≡ length (those (64 * (i / 64)) (has_bit words)) + count_ones (bit_and (get_or words (i / 64) 0) (1 * 2 ^ (i % 64) % 2 ^ 64 - 1))
bits_counted_below words i =
    let split : i ≡ 64 * (i / 64) + i % 64 = omega arith in
    let word : ℕ = get_or words (i / 64) 0 in
    let one : word / 2 ^ 0 ≡ word = omega arith in
    let mask : bit_and word (1 * 2 ^ (i % 64) % 2 ^ 64 - 1) ≡ word % 2 ^ (i % 64) =
    ap (λ (m : ℕ). bit_and word (m - 1)) (one_shl (i % 64) 64 (omega arith)) ∙ and_mask word (i % 64) in
    ap (λ (n : ℕ). length (those n (has_bit words))) split ∙ those_counted words (i / 64) (i % 64) (omega arith)
    ∙ ap (λ (n : ℕ). length (those (64 * (i / 64)) (has_bit words)) + n)
    (ones_length word 0 (i % 64) ∙ ap (λ (n : ℕ). count_ones (n % 2 ^ (i % 64))) one ∙ ap count_ones (sym mask))

-- ---- the numbers of a slice as bits

pub word_bit : (bytes : List ℕ) (q r : ℕ) → EachByte bytes → 8 * q + 8 ≤ length bytes → r < 64
    → bit_at (number_of (take 8 (drop (8 * q) bytes))) r ≡ bit_at (get_or bytes (8 * q + r / 8) 0) (r % 8)
word_bit bytes q r are room small =
    let split : r ≡ 8 * (r / 8) + r % 8 = omega arith in
    let part = take 8 (drop (8 * q) bytes) in
    let long : length part ≡ 8 = length-take-le 8 (drop (8 * q) bytes) (omega (arith, length-drop (8 * q) bytes)) in
    ap (bit_at (number_of part)) split
    ∙ bit_of_bytes part (r / 8) (r % 8) (bytes_taken 8 (drop (8 * q) bytes) (bytes_dropped (8 * q) bytes are)) (omega arith) (omega arith)
    ∙ ap (λ (b : ℕ). bit_at b (r % 8)) (get_or-take 8 (drop (8 * q) bytes) (r / 8) 0 (omega arith) ∙ get_or-drop (8 * q) bytes (r / 8) 0)

-- a word of 32 bytes
abbrev pub IsWord : List ℕ → ℕ → ℕ → Type 0
IsWord bytes q word = word ≡ number_of (take 8 (drop (8 * q) bytes))

word_of : (bytes : List ℕ) (r s t u : ℕ) → IsWord bytes 0 r → IsWord bytes 1 s → IsWord bytes 2 t → IsWord bytes 3 u
    → (q : ℕ) → q < 4 → IsWord bytes q (get_or (r ∷ s ∷ t ∷ u ∷ []) q 0)
word_of bytes r s t u c d e f zero h = c
word_of bytes r s t u c d e f (suc zero) h = d
word_of bytes r s t u c d e f (suc (suc zero)) h = e
word_of bytes r s t u c d e f (suc (suc (suc zero))) h = f
word_of bytes r s t u c d e f (suc (suc (suc (suc q)))) h = absurd (omega arith)

pub four_words : (bytes : List ℕ) (r s t u : ℕ) → IsWord bytes 0 r → IsWord bytes 1 s → IsWord bytes 2 t → IsWord bytes 3 u
    → EachByte bytes → length bytes ≡ 32 → (i : ℕ) → i < 256 → has_bit (r ∷ s ∷ t ∷ u ∷ []) i ≡ has i (ones_from (number_of bytes) 0 256)
unfolding has_bit
four_words bytes r s t u c d e f are size i small =
    let position : 8 * (i / 64) + i % 64 / 8 ≡ i / 8 = omega arith in
    let rest : i % 64 % 8 ≡ i % 8 = omega arith in
    ap (λ (w : ℕ). eqb (bit_at w (i % 64)) 1) (word_of bytes r s t u c d e f (i / 64) (omega arith))
    ∙ ap (λ (b : ℕ). eqb b 1) (word_bit bytes (i / 64) (i % 64) are (omega arith) (omega arith)
    ∙ ap (λ (k : ℕ). bit_at (get_or bytes k 0) (i % 64 % 8)) position ∙ ap (bit_at (get_or bytes (i / 8) 0)) rest)
    ∙ sym (bits_bit bytes i are size small)

all_at : (n w q : ℕ) → q < n → get_or (replicate n w) q 0 ≡ w
all_at zero w q h = absurd (omega arith)
all_at (suc n) w zero h = refl
all_at (suc n) w (suc q) h = all_at n w q (omega arith)

pub four_full : (i : ℕ) → i < 256 → has_bit (replicate 4 (2 ^ 64 - 1)) i ≡ has i (range_with_len 0 256)
unfolding has_bit
four_full i small =
    ap (λ (w : ℕ). eqb (bit_at w (i % 64)) 1) (all_at 4 (2 ^ 64 - 1) (i / 64) (omega arith))
    ∙ ap (λ (b : ℕ). eqb b 1) (bit_at_ones 64 (i % 64) (omega arith)) ∙ sym (has_all i 0 256 (omega arith) (omega arith))

or_turned : (b c d : Bool) → b ≡ c → (b || d) ≡ (d || (c || false))
or_turned true true true e = refl
or_turned true true false e = refl
or_turned false false true e = refl
or_turned false false false e = refl
or_turned true false d e = absurd (true≢false e)
or_turned false true d e = absurd (true≢false (sym e))

-- one number more is among those so far
pub has_more : (x : ℕ) (xs : List ℕ) (i : ℕ) → i < length xs → (eqb x (get_or xs i 0) || has x (take i xs)) ≡ has x (take (i + 1) xs)
has_more x xs i h =
    or_turned (eqb x (get_or xs i 0)) (eqb (get_or xs i 0) x) (has x (take i xs)) (eqb_turned x (get_or xs i 0))
    ∙ sym (has_append x (take i xs) (get_or xs i 0 ∷ [])) ∙ ap (has x) (sym (take_more xs i 0 h))

-- ---- the bits of some high bytes

-- the words of a high byte
pub has_part : (words : List ℕ) (high i : ℕ) → i < 256 → has_bit (take 4 (drop (4 * high) words)) i ≡ has_bit words (256 * high + i)
unfolding has_bit
has_part words high i small =
    let word : 4 * high + i / 64 ≡ (256 * high + i) / 64 = omega arith in
    let bit : i % 64 ≡ (256 * high + i) % 64 = omega arith in
    ap (λ (w : ℕ). eqb (bit_at w (i % 64)) 1)
    (get_or-take 4 (drop (4 * high) words) (i / 64) 0 (omega arith) ∙ get_or-drop (4 * high) words (i / 64) 0 ∙ ap (λ (k : ℕ). get_or words k 0) word)
    ∙ ap (λ (k : ℕ). eqb (bit_at (get_or words ((256 * high + i) / 64) 0) k) 1) bit

-- numbers below others are apart from them
pub has_above : (x low high : ℕ) (xs : List ℕ) → IsRising low high xs → high ≤ x → has x xs ≡ false
has_above x low high [] r h = refl
has_above x low high (y ∷ xs) (a, r) h =
    let room = rising_room (y + 1) high xs r in
    ap (λ (b : Bool). b || has x xs) (ne_eqb y x (λ e. omega arith)) ∙ has_above x (y + 1) high xs r h

pub next_apart : (low high i : ℕ) (xs : List ℕ) → IsRising low high xs → i < length xs → has (get_or xs i 0) (take i xs) ≡ false
next_apart low high i xs r h = has_above (get_or xs i 0) low (get_or xs i 0) (take i xs) (rising_take low high xs i r h) (omega arith)

-- how many bits are before each of four words, if they are counted word by word
pub counted_before : (words : List ℕ) (one two three : ℕ) → ((k : ℕ) → get_or words k 0 < 2 ^ 64)
    → one ≡ count_ones (get_or words 0 0) → two ≡ one + count_ones (get_or words 1 0) → three ≡ two + count_ones (get_or words 2 0)
    → (k : ℕ) → k < 4 → get_or (0 ∷ one ∷ two ∷ three ∷ []) k 0 ≡ length (those (64 * k) (has_bit words))
unfolding those
counted_before words one two three small a b c zero h = refl
counted_before words one two three small a b c (suc zero) h = let p = word_counted words 0 (small 0) in omega arith
counted_before words one two three small a b c (suc (suc zero)) h = let p = word_counted words 0 (small 0) in let q = word_counted words 1 (small 1) in omega arith
counted_before words one two three small a b c (suc (suc (suc zero))) h =
    let p = word_counted words 0 (small 0) in let q = word_counted words 1 (small 1) in let r = word_counted words 2 (small 2) in omega arith
counted_before words one two three small a b c (suc (suc (suc (suc k)))) h = absurd (omega arith)
