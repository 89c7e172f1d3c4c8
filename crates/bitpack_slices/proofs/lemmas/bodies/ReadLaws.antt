-- What is looked up in slices and bodies.
use Rattle.std.proofs.Common.{◌≡◌, ◌≢◌, ℕ, zero, suc, ◌+◌, ◌*◌, ◌/◌, ◌%◌, ◌^◌, ◌-◌, ◌<◌, ◌≤◌, Bool, true, false, ◌||◌, ◌&&◌, eqb, ltb, List, [], ◌∷◌, ◌++◌, map, take, drop, length, refl, sym, ap, ◌∙◌, arith, cond, inl, inr, get_or, eq-eqb, length-drop}
use Rattle.std.proofs.Math.Bool.{and-false, and-true, or-false}
use mir.Val.{bool_byte}
use Rattle.std.specs.Int.{bit_at}
use Rattle.std.specs.List.{filter, range_with_len}
use Rattle.std.proofs.lemmas.Bool.{cases_lt, cond_above, false≢true, le-ltb, lt-ltb, ne_eqb, or_parts, true≢false}
use Rattle.std.proofs.lemmas.List.{drop-drop, drop_all, drop_more}
use Rattle.std.proofs.lemmas.Nat.Bits.{bit_at_cat_low, bit_at_cat_high}
use Rattle.bitpack_slices.proofs.lemmas.slices.SliceLaws.{rising_room}
use Rattle.bitpack_slices.proofs.lemmas.bytes.Bytes.{EachByte}
use Rattle.bitpack_slices.specs.Reads.{has, rank}
use Rattle.bitpack_slices.specs.Bodies.{IsRising}
use Rattle.bitpack_slices.specs.Slices.{AreSlices, number_of, numbers_of, ones_from, slice_len, slice_numbers, slices_len}

pub bit_le : (b : Bool) → cond b 1 0 ≤ 1
bit_le true = omega arith
bit_le false = omega arith

-- ---- one byte after the other

pub has_drop : (x : ℕ) (xs : List ℕ) (i : ℕ) → i < length xs → has x (drop i xs) ≡ (eqb (get_or xs i 0) x || has x (drop (i + 1) xs))
has_drop x xs i h = ap (has x) (drop_more xs i 0 h)

pub has_done : (x : ℕ) (xs : List ℕ) (i : ℕ) → length xs ≤ i → has x (drop i xs) ≡ false
has_done x xs i h = ap (has x) (drop_all i xs h)

pub has_next : (x : ℕ) (xs : List ℕ) (i : ℕ) → i < length xs → get_or xs i 0 ≢ x → has x (drop i xs) ≡ has x (drop (i + 1) xs)
has_next x xs i h ne = has_drop x xs i h ∙ ap (λ (b : Bool). b || has x (drop (i + 1) xs)) (ne_eqb (get_or xs i 0) x ne)

pub has_here : (x : ℕ) (xs : List ℕ) (i : ℕ) → i < length xs → get_or xs i 0 ≡ x → has x (drop i xs) ≡ true
has_here x xs i h e = has_drop x xs i h ∙ ap (λ (b : Bool). b || has x (drop (i + 1) xs)) (eq-eqb (get_or xs i 0) x e)

pub rank_drop : (x : ℕ) (xs : List ℕ) (i : ℕ) → i < length xs → rank x (drop i xs) ≡ cond (ltb (get_or xs i 0) x) 1 0 + rank x (drop (i + 1) xs)
rank_drop x xs i h = ap (rank x) (drop_more xs i 0 h)

pub rank_done : (x : ℕ) (xs : List ℕ) (i : ℕ) → length xs ≤ i → rank x (drop i xs) ≡ 0
rank_done x xs i h = ap (rank x) (drop_all i xs h)

-- ---- bits

has_step : (b : Bool) (x low : ℕ) (xs : List ℕ) → has x (cond b (low ∷ xs) xs) ≡ ((b && eqb low x) || has x xs)
has_step true x low xs = refl
has_step false x low xs = refl

rank_step : (b : Bool) (x low : ℕ) (xs : List ℕ) → rank x (cond b (low ∷ xs) xs) ≡ cond b (cond (ltb low x) 1 0) 0 + rank x xs
rank_step true x low xs = refl
rank_step false x low xs = omega arith

has_out : (P : ℕ → Bool) (x low n : ℕ) → x < low → has x (filter P (range_with_len low n)) ≡ false
has_out P x low zero h = refl
has_out P x low (suc n) h =
    has_step (P low) x low (filter P (range_with_len (low + 1) n))
    ∙ ap (λ (b : Bool). (P low && b) || has x (filter P (range_with_len (low + 1) n))) (ne_eqb low x (λ e. omega arith))
    ∙ ap (λ (b : Bool). b || has x (filter P (range_with_len (low + 1) n))) (and-false (P low))
    ∙ has_out P x (low + 1) n (omega arith)

has_first : (P : ℕ → Bool) (x low n : ℕ) → low ≡ x → has x (filter P (range_with_len low (suc n))) ≡ P x
has_first P x low n h =
    has_step (P low) x low (filter P (range_with_len (low + 1) n))
    ∙ ap (λ (b : Bool). (P low && b) || has x (filter P (range_with_len (low + 1) n))) (eq-eqb low x h)
    ∙ ap (λ (b : Bool). b || has x (filter P (range_with_len (low + 1) n))) (and-true (P low))
    ∙ ap (λ (b : Bool). P low || b) (has_out P x (low + 1) n (omega arith))
    ∙ or-false (P low) ∙ ap P h

-- a number of a range is left if it passes the test
pub has_filtered : (P : ℕ → Bool) (x low n : ℕ) → low ≤ x → x < low + n → has x (filter P (range_with_len low n)) ≡ P x
has_filtered P x low zero h l = absurd (omega arith)
has_filtered P x low (suc n) h l = elim (cases_lt low x) [
  | inl less ↦
      has_step (P low) x low (filter P (range_with_len (low + 1) n))
      ∙ ap (λ (b : Bool). (P low && b) || has x (filter P (range_with_len (low + 1) n))) (ne_eqb low x (λ e. omega arith))
      ∙ ap (λ (b : Bool). b || has x (filter P (range_with_len (low + 1) n))) (and-false (P low))
      ∙ has_filtered P x (low + 1) n (omega arith) (omega arith)
  | inr more ↦ has_first P x low n (omega arith)
]

pub has_ones : (x n low k : ℕ) → low ≤ x → x < low + k → has x (ones_from n low k) ≡ eqb (bit_at n x) 1
unfolding ones_from
has_ones x n low k h l = has_filtered (λ i. eqb (bit_at n i) 1) x low k h l

-- the bit of a number stands in its byte
pub bit_of_bytes : (bytes : List ℕ) (q r : ℕ) → EachByte bytes → q < length bytes → r < 8 → bit_at (number_of bytes) (8 * q + r) ≡ bit_at (get_or bytes q 0) r
unfolding number_of
bit_of_bytes [] q r h l s = absurd (omega arith)
bit_of_bytes (byte ∷ bytes) zero r (a, b) l s =
    let turned : byte + 256 * number_of bytes ≡ number_of bytes * 2 ^ 8 + byte = omega arith in
    let plain : 8 * zero + r ≡ r = omega arith in
    ap (bit_at (byte + 256 * number_of bytes)) plain ∙ ap (λ (n : ℕ). bit_at n r) turned ∙ bit_at_cat_low (number_of bytes) 8 byte r s
bit_of_bytes (byte ∷ bytes) (suc q) r (a, b) l s =
    let turned : byte + 256 * number_of bytes ≡ number_of bytes * 2 ^ 8 + byte = omega arith in
    let less : 8 * suc q + r - 8 ≡ 8 * q + r = omega arith in
    ap (λ (n : ℕ). bit_at n (8 * suc q + r)) turned ∙ bit_at_cat_high (number_of bytes) 8 byte (8 * suc q + r) a (omega arith)
    ∙ ap (bit_at (number_of bytes)) less ∙ bit_of_bytes bytes q r b (omega arith) s

pub has_bit : (bytes : List ℕ) (x : ℕ) → EachByte bytes → length bytes ≡ 32 → x < 256 → has x (ones_from (number_of bytes) 0 256) ≡ eqb (bit_at (get_or bytes (x / 8) 0) (x % 8)) 1
has_bit bytes x are size small =
    let split : x ≡ 8 * (x / 8) + x % 8 = omega arith in
    let bit : bit_at (number_of bytes) x ≡ bit_at (get_or bytes (x / 8) 0) (x % 8) =
    ap (bit_at (number_of bytes)) split ∙ bit_of_bytes bytes (x / 8) (x % 8) are (omega arith) (omega arith) in
    has_ones x (number_of bytes) 0 256 (omega arith) (omega arith) ∙ ap (λ (b : ℕ). eqb b 1) bit

-- ---- how many bits are before

cond_same : (b : Bool) → ◌≡◌ {A = ℕ} (cond b 0 0) 0
cond_same true = refl
cond_same false = refl

length_step : (b : Bool) (low : ℕ) (xs : List ℕ) → length (cond b (low ∷ xs) xs) ≡ cond b 1 0 + length xs
length_step true low xs = omega arith
length_step false low xs = omega arith

rank_out : (P : ℕ → Bool) (x low n : ℕ) → x ≤ low → rank x (filter P (range_with_len low n)) ≡ 0
rank_out P x low zero h = refl
rank_out P x low (suc n) h =
    let step = rank_step (P low) x low (filter P (range_with_len (low + 1) n)) in
    let flat : ◌≡◌ {A = ℕ} (cond (P low) (cond (ltb low x) 1 0) 0) 0 = ap (λ (b : Bool). cond (P low) (cond b 1 0) 0) (le-ltb low x h) ∙ cond_same (P low) in
    let rest = rank_out P x (low + 1) n (omega arith) in
    omega arith

-- as many are below a number as are left before it
pub rank_filtered : (P : ℕ → Bool) (x low n m : ℕ) → low + m ≡ x → m ≤ n → rank x (filter P (range_with_len low n)) ≡ length (filter P (range_with_len low m))
rank_filtered P x low n zero e h = rank_out P x low n (omega arith)
rank_filtered P x low zero (suc m) e h = absurd (omega arith)
rank_filtered P x low (suc n) (suc m) e h =
    rank_step (P low) x low (filter P (range_with_len (low + 1) n))
    ∙ ap (λ (b : Bool). cond (P low) (cond b 1 0) 0 + rank x (filter P (range_with_len (low + 1) n))) (lt-ltb low x (omega arith))
    ∙ ap (λ (k : ℕ). cond (P low) 1 0 + k) (rank_filtered P x (low + 1) n m (omega arith) (omega arith))
    ∙ sym (length_step (P low) low (filter P (range_with_len (low + 1) m)))

pub rank_le : (x : ℕ) (xs : List ℕ) → rank x xs ≤ length xs
rank_le x [] = omega arith
rank_le x (y ∷ xs) = let one = bit_le (ltb y x) in let ih = rank_le x xs in omega arith

-- ---- full slices

pub has_all : (x low n : ℕ) → low ≤ x → x < low + n → has x (range_with_len low n) ≡ true
has_all x low zero h l = absurd (omega arith)
has_all x low (suc n) h l = elim (cases_lt low x) [
  | inl less ↦ ap (λ (b : Bool). b || has x (range_with_len (low + 1) n)) (ne_eqb low x (λ e. omega arith)) ∙ has_all x (low + 1) n (omega arith) (omega arith)
  | inr more ↦ ap (λ (b : Bool). b || has x (range_with_len (low + 1) n)) (eq-eqb low x (omega arith))
]

rank_all_none : (x low n : ℕ) → x ≤ low → rank x (range_with_len low n) ≡ 0
rank_all_none x low zero h = refl
rank_all_none x low (suc n) h =
    let first : ◌≡◌ {A = ℕ} (cond (ltb low x) 1 0) 0 = ap (λ (b : Bool). cond b 1 0) (le-ltb low x h) in
    let rest = rank_all_none x (low + 1) n (omega arith) in
    omega arith

pub rank_all : (x low n : ℕ) → low ≤ x → x ≤ low + n → low + rank x (range_with_len low n) ≡ x
rank_all x low zero h l = omega arith
rank_all x low (suc n) h l = elim (cases_lt low x) [
  | inl less ↦
      let first : ◌≡◌ {A = ℕ} (cond (ltb low x) 1 0) 1 = ap (λ (b : Bool). cond b 1 0) (lt-ltb low x less) in
      let rest = rank_all x (low + 1) n (omega arith) (omega arith) in
      omega arith
  | inr more ↦ (let none = rank_all_none x low (suc n) (omega arith) in omega arith)
]

-- ---- the numbers of blocks

apart_below : (a b : ℕ) → a < b → a ≡ b → ⊥
apart_below a b h e = omega arith

pub or_assoc : (a b c : Bool) → (a || (b || c)) ≡ ((a || b) || c)
or_assoc true b c = refl
or_assoc false b c = refl

pub byte_is : (b : Bool) → bool_byte b ≡ cond b 1 0
byte_is true = refl
byte_is false = refl

pub le_self : (n : ℕ) → n ≤ n
le_self n = omega arith

pub eqb_same : (a b c d : ℕ) → (a ≡ b → c ≡ d) → (c ≡ d → a ≡ b) → eqb a b ≡ eqb c d
eqb_same a b c d f g = elim (cases_lt a b) [
  | inl less ↦ ne_eqb a b (λ e. omega arith) ∙ sym (ne_eqb c d (λ e. apart_below a b less (g e)))
  | inr more ↦ elim (cases_lt b a) [
    | inl less ↦ ne_eqb a b (λ e. omega arith) ∙ sym (ne_eqb c d (λ e. apart_below b a less (sym (g e))))
    | inr more' ↦ eq-eqb a b (omega arith) ∙ sym (eq-eqb c d (f (omega arith)))
  ]
]

pub has_append : (x : ℕ) (xs ys : List ℕ) → has x (xs ++ ys) ≡ (has x xs || has x ys)
has_append x [] ys = refl
has_append x (y ∷ xs) ys = ap (λ (b : Bool). eqb y x || b) (has_append x xs ys) ∙ or_assoc (eqb y x) (has x xs) (has x ys)

split_other : (x h low : ℕ) → low < 256 → h ≢ x / 256 → h * 256 + low ≢ x
split_other x h low small ne e = ne (omega arith)

has_other : (x h from : ℕ) (xs : List ℕ) → IsRising from 256 xs → h ≢ x / 256 → has x (map (λ low. h * 256 + low) xs) ≡ false
has_other x h from [] r ne = refl
has_other x h from (y ∷ xs) (a, r) ne =
    let room = rising_room (y + 1) 256 xs r in
    ap (λ (b : Bool). b || has x (map (λ low. h * 256 + low) xs)) (ne_eqb (h * 256 + y) x (split_other x h y (omega arith) ne)) ∙ has_other x h (y + 1) xs r ne

has_same : (x h from : ℕ) (xs : List ℕ) → IsRising from 256 xs → h ≡ x / 256 → has x (map (λ low. h * 256 + low) xs) ≡ has (x % 256) xs
has_same x h from [] r e = refl
has_same x h from (y ∷ xs) (a, r) e =
    let room = rising_room (y + 1) 256 xs r in
    ap (λ (b : Bool). b || has x (map (λ low. h * 256 + low) xs)) (eqb_same (h * 256 + y) x y (x % 256) (λ s. omega arith) (λ s. omega arith))
    ∙ ap (λ (b : Bool). eqb y (x % 256) || b) (has_same x h (y + 1) xs r e)

pub has_below : (x low high : ℕ) (xs : List ℕ) → IsRising low high xs → x < low → has x xs ≡ false
has_below x low high [] r h = refl
has_below x low high (y ∷ xs) (a, r) h =
    ap (λ (b : Bool). b || has x xs) (ne_eqb y x (λ e. omega arith)) ∙ has_below x (y + 1) high xs r (omega arith)

pub rank_below : (x low high : ℕ) (xs : List ℕ) → IsRising low high xs → x ≤ low → rank x xs ≡ 0
rank_below x low high [] r h = refl
rank_below x low high (y ∷ xs) (a, r) h =
    let first : ◌≡◌ {A = ℕ} (cond (ltb y x) 1 0) 0 = ap (λ (b : Bool). cond b 1 0) (le-ltb y x (omega arith)) in
    let rest = rank_below x (y + 1) high xs r (omega arith) in
    omega arith

-- a number that is among some has its position among them
pub rank_less : (x : ℕ) (xs : List ℕ) → has x xs ≡ true → rank x xs < length xs
rank_less x [] h = absurd (false≢true h)
rank_less x (y ∷ xs) h = elim (cases_lt y x) [
  | inl less ↦ (
      let rest : has x xs ≡ true = sym (ap (λ (b : Bool). b || has x xs) (ne_eqb y x (λ e. omega arith))) ∙ h in
      let ih = rank_less x xs rest in
      let one = bit_le (ltb y x) in
      omega arith)
  | inr more ↦ (
      let first : ◌≡◌ {A = ℕ} (cond (ltb y x) 1 0) 0 = ap (λ (b : Bool). cond b 1 0) (le-ltb y x more) in
      let rest = rank_le x xs in
      omega arith)
]

-- no number has a high byte that does not occur
pub not_in : (x : ℕ) (highs counts bytes : List ℕ) → AreSlices counts bytes → has (x / 256) highs ≡ false → has x (numbers_of highs counts bytes) ≡ false
unfolding numbers_of
not_in x [] counts bytes are h = refl
not_in x (high ∷ highs) [] bytes are h = refl
not_in x (high ∷ highs) (less ∷ counts) bytes (room, is, later) h =
    let (one, rest) = or_parts (eqb high (x / 256)) (has (x / 256) highs) h in
    let low = slice_numbers (less + 1) (take (slice_len (less + 1)) bytes) in
    let bytes' = drop (slice_len (less + 1)) bytes in
    has_append x (map (λ low. high * 256 + low) low) (numbers_of highs counts bytes')
    ∙ ap (λ (b : Bool). b || has x (numbers_of highs counts bytes')) (has_other x high 0 low is.rising (λ e. true≢false (sym (eq-eqb high (x / 256) e) ∙ one)))
    ∙ not_in x highs counts bytes' later rest

-- the slice of a position
abbrev pub slice_at : ℕ → List ℕ → List ℕ → List ℕ
slice_at i counts bytes = slice_numbers (get_or counts i 0 + 1) (take (slice_len (get_or counts i 0 + 1)) (drop (slices_len (take i counts)) bytes))

-- a number whose high byte occurs is looked up in the slice of that
pub in_numbers : (x low i : ℕ) (highs counts bytes : List ℕ) → i ≡ rank (x / 256) highs → length highs ≡ length counts → IsRising low 256 highs → AreSlices counts bytes
    → has (x / 256) highs ≡ true → has x (numbers_of highs counts bytes) ≡ has (x % 256) (slice_at i counts bytes)
unfolding numbers_of slices_len
in_numbers x low i [] counts bytes e size r are h = absurd (false≢true h)
in_numbers x low i (high ∷ highs) [] bytes e size r are h = absurd (omega arith)
in_numbers x low zero (high ∷ highs) (less ∷ counts) bytes e size (a, r) (room, is, later) h = elim (cases_lt high (x / 256)) [
  | inl below ↦ (
      let first : ◌≡◌ {A = ℕ} (cond (ltb high (x / 256)) 1 0) 1 = ap (λ (b : Bool). cond b 1 0) (lt-ltb high (x / 256) below) in
      absurd (omega arith))
  | inr more ↦ elim (cases_lt (x / 256) high) [
    | inl above ↦ absurd (false≢true (sym (has_below (x / 256) high 256 (high ∷ highs) (le_self high, r) above) ∙ h))
    | inr more' ↦ (
        let same : high ≡ x / 256 = omega arith in
        let low = slice_numbers (less + 1) (take (slice_len (less + 1)) bytes) in
        let bytes' = drop (slice_len (less + 1)) bytes in
        has_append x (map (λ low. high * 256 + low) low) (numbers_of highs counts bytes')
        ∙ ap (λ (b : Bool). has x (map (λ low. high * 256 + low) low) || b) (not_in x highs counts bytes' later (has_below (x / 256) (high + 1) 256 highs r (omega arith)))
        ∙ or-false (has x (map (λ low. high * 256 + low) low)) ∙ has_same x high 0 low is.rising same)
  ]
]
in_numbers x low (suc i) (high ∷ highs) (less ∷ counts) bytes e size (a, r) (room, is, later) h = elim (cases_lt high (x / 256)) [
  | inl below ↦ (
      let first : ◌≡◌ {A = ℕ} (cond (ltb high (x / 256)) 1 0) 1 = ap (λ (b : Bool). cond b 1 0) (lt-ltb high (x / 256) below) in
      let rest : has (x / 256) highs ≡ true = sym (ap (λ (b : Bool). b || has (x / 256) highs) (ne_eqb high (x / 256) (λ s. omega arith))) ∙ h in
      let low = slice_numbers (less + 1) (take (slice_len (less + 1)) bytes) in
      let bytes' = drop (slice_len (less + 1)) bytes in
      has_append x (map (λ low. high * 256 + low) low) (numbers_of highs counts bytes')
      ∙ ap (λ (b : Bool). b || has x (numbers_of highs counts bytes')) (has_other x high 0 low is.rising (λ s. omega arith))
      ∙ in_numbers x (high + 1) i highs counts bytes' (omega arith) (omega arith) r later rest
      ∙ ap (λ (l : List ℕ). has (x % 256) (slice_numbers (get_or counts i 0 + 1) (take (slice_len (get_or counts i 0 + 1)) l))) (drop-drop (slices_len (take i counts)) (slice_len (less + 1)) bytes))
  | inr more ↦ (
      let first : ◌≡◌ {A = ℕ} (cond (ltb high (x / 256)) 1 0) 0 = ap (λ (b : Bool). cond b 1 0) (le-ltb high (x / 256) more) in
      let rest = rank_below (x / 256) (high + 1) 256 highs r (omega arith) in
      absurd (omega arith))
]

-- it is within the bytes
pub offset_fits : (i : ℕ) (counts bytes : List ℕ) → AreSlices counts bytes → i < length counts → slices_len (take i counts) + slice_len (get_or counts i 0 + 1) ≤ length bytes
unfolding slices_len
offset_fits i [] bytes are h = absurd (omega arith)
offset_fits zero (less ∷ counts) bytes (room, is, later) h = omega arith
offset_fits (suc i) (less ∷ counts) bytes (room, is, later) h =
    let ih = offset_fits i counts (drop (slice_len (less + 1)) bytes) later (omega arith) in
    omega (arith, length-drop (slice_len (less + 1)) bytes)

pub full_numbers : (count : ℕ) (bytes : List ℕ) → 256 ≤ count → slice_numbers count bytes ≡ range_with_len 0 256
full_numbers count bytes h = sym (cond_above count 32 _ _ _ (omega arith) (cond_above count 256 _ _ _ h refl))
