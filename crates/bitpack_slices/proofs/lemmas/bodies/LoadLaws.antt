-- What is loaded into bitmaps.
use borrow.Rule.Slice.PartMut.{put_mid, post_of}
use Rattle.std.proofs.Common.{◌≡◌, ◌≢◌, ◌⊎◌, ℕ, zero, suc, ◌+◌, ◌*◌, ◌/◌, ◌%◌, ◌-◌, ◌<◌, ◌≤◌, Bool, true, false, ◌||◌, eqb, List, [], ◌∷◌, ◌++◌, map, take, drop, length, refl, sym, ap, ◌∙◌, arith, cond, inl, inr, get_or, subst, replicate, eq-eqb, length-drop}
use Rattle.std.proofs.Math.Bool.{or-false, or_comm, or_self}
use Rattle.std.specs.Int.{bit_at}
use Rattle.std.specs.List.{filter, list_any, range_with_len}
use Rattle.std.proofs.lemmas.Bool.{cases_lt, ne_eqb}
use Rattle.std.proofs.lemmas.Bool.Decides.{eqb_tells}
use Rattle.std.proofs.lemmas.List.{get_or_append_left, get_or-append_right, get_or-drop, get_or-map, get_or-replicate, get_or-take, length-map, length-take-le, take_all}
use Rattle.std.proofs.lemmas.Nat.Bits.{bit_at-zero}
use Rattle.std.proofs.lemmas.List.Folds.{list_any-append, list_any_more}
use Rattle.bitpack_slices.proofs.lemmas.bodies.BlockReads.{slice_there}
use Rattle.bitpack_slices.proofs.lemmas.numbers.HalfLaws.{pairs_at, pairs_len}
use Rattle.bitpack_slices.proofs.lemmas.bits.OnesLaws.{filtered_rise}
use Rattle.bitpack_slices.proofs.lemmas.bodies.ReadLaws.{eqb_same, has_below, has_filtered, in_numbers, not_in, offset_fits, rank_filtered, rank_less, slice_at}
use Rattle.bitpack_slices.proofs.lemmas.slices.SliceLaws.{rising_room}
use Rattle.bitpack_slices.proofs.lemmas.bytes.ArrayLaws.{quads_at, quads_len}
use Rattle.bitpack_slices.specs.Bitmaps.{has_bit, has_high}
use Rattle.bitpack_slices.specs.Slices.{AreSlices, HasSlice, IsSlice, lows_of, numbers_of, quads_of, slice_len, slice_numbers, slices_len}
use Rattle.bitpack_slices.specs.Operations.{those}
use Rattle.bitpack_slices.specs.Parts.{numbers_in_parts}
use Rattle.bitpack_slices.specs.declared.chunk.parts.Parts.{Parts}
use Rattle.bitpack_slices.specs.Reads.{has, rank}
use Rattle.bitpack_slices.specs.Bodies.{IsRising, slice}

-- ---- the words of one high byte are written

bit_same : (i j r s : ℕ) (xs ys : List ℕ) → get_or xs i 0 ≡ get_or ys j 0 → r ≡ s → eqb (bit_at (get_or xs i 0) r) 1 ≡ eqb (bit_at (get_or ys j 0) s) 1
bit_same i j r s xs ys e f = ap (λ (n : ℕ). eqb (bit_at n r) 1) e ∙ ap (λ (n : ℕ). eqb (bit_at (get_or ys j 0) n) 1) f

-- a high byte has four words
pub four_words : (from : ℕ) (words : List ℕ) → from + 4 ≤ length words → length (take (from + 4 - from) (drop from words)) ≡ 4
four_words from words h =
    let four : from + 4 - from ≡ 4 = omega arith in
    length-take-le (from + 4 - from) (drop from words) (omega (arith, length-drop from words)) ∙ four

-- its own bits are those that are written
pub bit_own : (from k h x : ℕ) (words bits : List ℕ) → from ≡ 4 * h → k ≡ 4 → length bits ≡ 4 → from ≤ length words → x / 256 ≡ h
    → has_bit (put_mid from k words bits) x ≡ has_bit bits (x % 256)
unfolding has_bit
bit_own from k h x words bits e f size room own =
    let start : length (take from words) ≡ from = length-take-le from words room in
    let offset : x / 64 - from ≡ x % 256 / 64 = omega arith in
    bit_same (x / 64) (x % 256 / 64) (x % 64) (x % 256 % 64) (put_mid from k words bits) bits
    (get_or-append_right (take from words) (bits ++ post_of from k words) from (x / 64) 0 start (omega arith)
    ∙ ap (λ (i : ℕ). get_or (bits ++ post_of from k words) i 0) offset
    ∙ get_or_append_left bits (post_of from k words) 0 (x % 256 / 64) (omega arith))
    (omega arith)

-- other bits stay
pub bit_rest : (from k h x : ℕ) (words bits : List ℕ) → from ≡ 4 * h → k ≡ 4 → length bits ≡ 4 → from ≤ length words → x / 256 ≢ h
    → has_bit (put_mid from k words bits) x ≡ has_bit words x
unfolding has_bit
bit_rest from k h x words bits e f size room apart =
    let start : length (take from words) ≡ from = length-take-le from words room in
    bit_same (x / 64) (x / 64) (x % 64) (x % 64) (put_mid from k words bits) words
    (elim (cases_lt (x / 64) from) [
      | inl below ↦ get_or_append_left (take from words) (bits ++ post_of from k words) 0 (x / 64) (omega arith) ∙ get_or-take from words (x / 64) 0 below
      | inr more ↦ (
          let past : 4 ≤ x / 64 - from = elim (cases_lt (x / 64 - from) 4) [ inl few ↦ absurd (apart (omega arith)) | inr many ↦ many ] in
          let offset : from + (k + (x / 64 - from - 4)) ≡ x / 64 = omega arith in
          get_or-append_right (take from words) (bits ++ post_of from k words) from (x / 64) 0 start more
          ∙ get_or-append_right bits (post_of from k words) 4 (x / 64 - from) 0 size past
          ∙ get_or-drop k (drop from words) (x / 64 - from - 4) 0 ∙ get_or-drop from words (k + (x / 64 - from - 4)) 0
          ∙ ap (λ (i : ℕ). get_or words i 0) offset)
    ])
    refl

bit_none : (words : List ℕ) (x : ℕ) → get_or words (x / 64) 0 ≡ 0 → has_bit words x ≡ false
unfolding has_bit
bit_none words x e = ap (λ (n : ℕ). eqb (bit_at n (x % 64)) 1) e ∙ ap (λ (b : ℕ). eqb b 1) (bit_at-zero (x % 64))

-- four words of 0 have no bit
pub bit_clear : (x : ℕ) (words : List ℕ) → words ≡ replicate 4 0 → x < 256 → has_bit words x ≡ false
bit_clear x words e small = bit_none words x (ap (λ (l : List ℕ). get_or l (x / 64) 0) e ∙ get_or-replicate 4 (x / 64) 0 0 (omega arith))

-- ---- one high byte more

pub eqb_turned : (a b : ℕ) → eqb a b ≡ eqb b a
eqb_turned a b = eqb_same a b b a sym sym

-- a number that is among the first i + 1 is the last of them, or is among the first i
pub has_taken : (x : ℕ) (xs : List ℕ) (i : ℕ) → i < length xs → has x (take (i + 1) xs) ≡ (eqb (get_or xs i 0) x || has x (take i xs))
has_taken x xs i h = list_any_more (λ y. eqb y x) xs i 0 h ∙ or_comm (has x (take i xs)) (eqb (get_or xs i 0) x)

-- ---- integers of two or four bytes

halves : (a b c d : ℕ) → a < 256 → b < 256 → (a + 256 * b + 65536 * c + 16777216 * d) % 65536 ≡ a + 256 * b
halves a b c d h k = omega arith

low_pair : (i : ℕ) (bytes : List ℕ) → 2 * i + 2 ≤ length bytes → get_or bytes (2 * i) 0 + 256 * get_or bytes (2 * i + 1) 0 ≡ get_or (lows_of 2 bytes) i 0
low_pair i bytes h = sym (pairs_at bytes i (omega arith))

low_quad : (i : ℕ) (bytes : List ℕ) → ((k : ℕ) → get_or bytes k 0 < 256) → 4 * i + 4 ≤ length bytes
    → get_or bytes (4 * i) 0 + 256 * get_or bytes (4 * i + 1) 0 ≡ get_or (lows_of 4 bytes) i 0
low_quad i bytes are h =
    let size = quads_len bytes in
    sym (get_or-map (λ x. x % 65536) (quads_of bytes) i 0 0 (omega arith) ∙ ap (λ (n : ℕ). n % 65536) (quads_at bytes i h)
    ∙ halves (get_or bytes (4 * i) 0) (get_or bytes (4 * i + 1) 0) (get_or bytes (4 * i + 2) 0) (get_or bytes (4 * i + 3) 0) (are (4 * i)) (are (4 * i + 1)))

-- the low 16 bits of an integer are its first two bytes
pub low_is : (size i : ℕ) (bytes : List ℕ) → (size ≡ 2) ⊎ (size ≡ 4) → ((k : ℕ) → get_or bytes k 0 < 256) → size * i + size ≤ length bytes
    → get_or bytes (size * i) 0 + 256 * get_or bytes (size * i + 1) 0 ≡ get_or (lows_of size bytes) i 0
low_is size i bytes (inl e) are h = subst (λ (s : ℕ). s * i + s ≤ length bytes → get_or bytes (s * i) 0 + 256 * get_or bytes (s * i + 1) 0 ≡ get_or (lows_of s bytes) i 0)
    (sym e) (low_pair i bytes) h
low_is size i bytes (inr e) are h = subst (λ (s : ℕ). s * i + s ≤ length bytes → get_or bytes (s * i) 0 + 256 * get_or bytes (s * i + 1) 0 ≡ get_or (lows_of s bytes) i 0)
    (sym e) (low_quad i bytes are) h

-- the low 16 bits of each are one number
pub lows_len : (size : ℕ) (bytes : List ℕ) → (size ≡ 2) ⊎ (size ≡ 4) → length (lows_of size bytes) ≡ length bytes / size
lows_len size bytes (inl e) = subst (λ (s : ℕ). length (lows_of s bytes) ≡ length bytes / s) (sym e) (pairs_len bytes)
lows_len size bytes (inr e) = subst (λ (s : ℕ). length (lows_of s bytes) ≡ length bytes / s) (sym e) (length-map (quads_of bytes) (λ x. x % 65536) ∙ quads_len bytes)

-- ---- what the loops keep

pub any_done : (p : ℕ → Bool) (n : ℕ) (xs : List ℕ) → length xs ≤ n → list_any p (take n xs) ≡ list_any p xs
any_done p n xs h = ap (list_any p) (take_all n xs h)

-- an integer more has its bit
pub one_loaded : (size i x low : ℕ) (bytes words new : List ℕ) → (size ≡ 2) ⊎ (size ≡ 4) → i < length bytes / size → low ≡ get_or (lows_of size bytes) i 0
    → has_bit new x ≡ (eqb x low || has_bit words x) → has_bit words x ≡ has x (take i (lows_of size bytes)) → has_bit new x ≡ has x (take (i + 1) (lows_of size bytes))
one_loaded size i x low bytes words new s h e now before =
    let len = lows_len size bytes s in
    now ∙ ap (λ (b : Bool). eqb x low || b) before ∙ ap (λ (n : ℕ). eqb x n || has x (take i (lows_of size bytes))) e
    ∙ ap (λ (b : Bool). b || has x (take i (lows_of size bytes))) (eqb_turned x (get_or (lows_of size bytes) i 0))
    ∙ sym (has_taken x (lows_of size bytes) i (omega arith))

-- an integer more has its high byte
pub one_found : (size i h low : ℕ) (bytes words new : List ℕ) → (size ≡ 2) ⊎ (size ≡ 4) → i < length bytes / size → low ≡ get_or (lows_of size bytes) i 0
    → has_bit new h ≡ (eqb h (low / 256) || has_bit words h) → has_bit words h ≡ has_high h (take i (lows_of size bytes)) → has_bit new h ≡ has_high h (take (i + 1) (lows_of size bytes))
one_found size i h low bytes words new s l e now before =
    let len = lows_len size bytes s in
    now ∙ ap (λ (b : Bool). eqb h (low / 256) || b) before ∙ ap (λ (n : ℕ). eqb h (n / 256) || has_high h (take i (lows_of size bytes))) e
    ∙ ap (λ (b : Bool). b || has_high h (take i (lows_of size bytes))) (eqb_turned h (get_or (lows_of size bytes) i 0 / 256))
    ∙ or_comm (eqb (get_or (lows_of size bytes) i 0 / 256) h) (has_high h (take i (lows_of size bytes)))
    ∙ sym (list_any_more (λ x. eqb (x / 256) h) (lows_of size bytes) i 0 (omega arith))

-- the bits of a high byte more are written
pub high_written : (P : ℕ → Bool) (i from k : ℕ) (highs words bits : List ℕ) → i < length highs → from ≡ 4 * get_or highs i 0 → k ≡ 4 → length bits ≡ 4 → from ≤ length words
    → ((y : ℕ) → y < 256 → has_bit bits y ≡ P (256 * get_or highs i 0 + y))
    → ((x : ℕ) → x < 65536 → has (x / 256) (take i highs) ≡ true → has_bit words x ≡ P x)
    → (x : ℕ) → x < 65536 → has (x / 256) (take (i + 1) highs) ≡ true → has_bit (put_mid from k words bits) x ≡ P x
high_written P i from k highs words bits h e f size room own before x small is = elim (eqb_tells (get_or highs i 0) (x / 256)) [
  | inl (here, same) ↦ (
      let whole : 256 * get_or highs i 0 + x % 256 ≡ x = omega arith in
      bit_own from k (get_or highs i 0) x words bits e f size room (sym same) ∙ own (x % 256) (omega arith) ∙ ap P whole)
  | inr (other, apart) ↦ (
      let member : has (x / 256) (take i highs) ≡ true = sym (ap (λ (b : Bool). b || has (x / 256) (take i highs)) other) ∙ sym (has_taken (x / 256) highs i h) ∙ is in
      bit_rest from k (get_or highs i 0) x words bits e f size room (λ s. apart (sym s)) ∙ before x small member)
]

-- ---- the numbers below a bound that pass a test

-- one of them is among them
pub has_those : (P : ℕ → Bool) (x bound : ℕ) → x < bound → has x (those bound P) ≡ P x
unfolding those
has_those P x bound h = has_filtered P x 0 bound (omega arith) (omega arith)

-- as many are below a number as there are below this bound
pub rank_those : (P : ℕ → Bool) (x bound : ℕ) → x ≤ bound → length (those x P) ≡ rank x (those bound P)
unfolding those
rank_those P x bound h = sym (rank_filtered P x 0 bound x (omega arith) h)

pub those_rise : (P : ℕ → Bool) (bound : ℕ) → IsRising 0 bound (those bound P)
unfolding those
those_rise P bound = filtered_rise P 0 bound bound (omega arith)

pub filtered_same : (P Q : ℕ → Bool) (low n : ℕ) → ((i : ℕ) → low ≤ i → i < low + n → P i ≡ Q i) → filter P (range_with_len low n) ≡ filter Q (range_with_len low n)
filtered_same P Q low zero e = refl
filtered_same P Q low (suc n) e =
    ap (λ (b : Bool). cond b (low ∷ filter P (range_with_len (low + 1) n)) (filter P (range_with_len (low + 1) n))) (e low (omega arith) (omega arith))
    ∙ ap (λ (l : List ℕ). cond (Q low) (low ∷ l) l) (filtered_same P Q (low + 1) n (λ i a b. e i (omega arith) (omega arith)))

filtered_all : (low high n : ℕ) (xs : List ℕ) → low + n ≡ high → IsRising low high xs → filter (λ i. has i xs) (range_with_len low n) ≡ xs
filtered_all low high zero [] e r = refl
filtered_all low high zero (y ∷ ys) e (a, r) = let room = rising_room (y + 1) high ys r in absurd (omega arith)
filtered_all low high (suc n) [] e r = filtered_all (low + 1) high n [] (omega arith) (omega arith)
filtered_all low high (suc n) (y ∷ ys) e (a, r) = elim (cases_lt low y) [
  | inl less ↦
      ap (λ (b : Bool). cond b (low ∷ filter (λ i. has i (y ∷ ys)) (range_with_len (low + 1) n)) (filter (λ i. has i (y ∷ ys)) (range_with_len (low + 1) n)))
      (has_below low (low + 1) high (y ∷ ys) (omega arith, r) (omega arith))
      ∙ filtered_all (low + 1) high n (y ∷ ys) (omega arith) (omega arith, r)
  | inr more ↦ (
      let same : y ≡ low = omega arith in
      ap (λ (b : Bool). cond (b || has low ys) (low ∷ filter (λ i. has i (y ∷ ys)) (range_with_len (low + 1) n)) (filter (λ i. has i (y ∷ ys)) (range_with_len (low + 1) n))) (eq-eqb y low same)
      ∙ ap (λ (l : List ℕ). low ∷ l) (filtered_same (λ i. has i (y ∷ ys)) (λ i. has i ys) (low + 1) n (λ i b c. ap (λ (d : Bool). d || has i ys) (ne_eqb y i (λ s. omega arith))))
      ∙ ap (λ (l : List ℕ). low ∷ l) (filtered_all (low + 1) high n ys (omega arith) (subst (λ (k : ℕ). IsRising (k + 1) high ys) same r))
      ∙ ap (λ (k : ℕ). k ∷ ys) (sym same))
]

-- increasing numbers are those that are among them
pub those_are : (P : ℕ → Bool) (bound : ℕ) (xs : List ℕ) → IsRising 0 bound xs → ((i : ℕ) → i < bound → P i ≡ has i xs) → those bound P ≡ xs
unfolding those
those_are P bound xs r e = filtered_same P (λ i. has i xs) 0 bound (λ i a b. e i (omega arith)) ∙ filtered_all 0 bound bound xs (omega arith) r

-- ---- the slice of a high byte

high_split : (h i : ℕ) → i < 256 → (256 * h + i) / 256 ≡ h
high_split h i s = omega arith

low_split : (h i : ℕ) → i < 256 → (256 * h + i) % 256 ≡ i
low_split h i s = omega arith

-- a high byte that occurs has a position among the counts
pub index_within : (P : ℕ → Bool) (h index : ℕ) (counts : List ℕ) → length (those 256 P) ≡ length counts → index ≡ length (those h P) → h < 256 → P h ≡ true → index < length counts
index_within P h index counts size e small is =
    let less = rank_less h (those 256 P) (has_those P h 256 small ∙ is) in
    let same = rank_those P h 256 (omega arith) in
    omega arith

-- no number has a high byte that does not occur
pub none_there : (P : ℕ → Bool) (h i : ℕ) (counts slices : List ℕ) → h < 256 → i < 256 → P h ≡ false → AreSlices counts slices
    → has (256 * h + i) (numbers_of (those 256 P) counts slices) ≡ false
none_there P h i counts slices small less is are =
    not_in (256 * h + i) (those 256 P) counts slices are (ap (λ (n : ℕ). has n (those 256 P)) (high_split h i less) ∙ has_those P h 256 small ∙ is)

-- the numbers of one that occurs are those of its slice
pub some_there : (P : ℕ → Bool) (h i index start : ℕ) (counts slices : List ℕ) → h < 256 → i < 256 → P h ≡ true → length (those 256 P) ≡ length counts → AreSlices counts slices
    → index ≡ length (those h P) → start ≡ slices_len (take index counts)
    → has i (slice_numbers (get_or counts index 0 + 1) (take (slice_len (get_or counts index 0 + 1)) (drop start slices))) ≡ has (256 * h + i) (numbers_of (those 256 P) counts slices)
some_there P h i index start counts slices small less is long are e f =
    let count : ℕ = get_or counts index 0 + 1 in
    let high : (256 * h + i) / 256 ≡ h = high_split h i less in
    let offset : index ≡ rank ((256 * h + i) / 256) (those 256 P) = e ∙ rank_those P h 256 (omega arith) ∙ ap (λ (n : ℕ). rank n (those 256 P)) (sym high) in
    let member : has ((256 * h + i) / 256) (those 256 P) ≡ true = ap (λ (n : ℕ). has n (those 256 P)) high ∙ has_those P h 256 small ∙ is in
    ap (λ (m : ℕ). has i (slice_numbers count (take (slice_len count) (drop m slices)))) f
    ∙ ap (λ (n : ℕ). has n (slice_at index counts slices)) (sym (low_split h i less))
    ∙ sym (in_numbers (256 * h + i) 0 index (those 256 P) counts slices offset long (those_rise P 256) are member)

-- such a slice is there
pub slice_found : (index start : ℕ) (counts slices : List ℕ) → AreSlices counts slices → index < length counts → start ≡ slices_len (take index counts)
    → HasSlice slices start (get_or counts index 0 + 1)
slice_found index start counts slices are less e =
    let count : ℕ = get_or counts index 0 + 1 in
    let fits = offset_fits index counts slices are less in
    let is = subst (λ (n : ℕ). IsSlice count (take (slice_len count) (drop n slices))) (sym e) (slice_there index counts slices are less) in
    let few = rising_room 0 256 (slice_numbers count (take (slice_len count) (drop start slices))) is.rising in
    let size = is.count_is in
    record { few = omega arith; room = omega arith; slice = is }

pub none_found : (bytes : List ℕ) → HasSlice bytes 0 0
unfolding slice
none_found bytes = record { few = omega arith; room = omega arith; slice = record { rising = omega arith; count_is = refl; encoding = refl } }

-- ---- a body of blocks

high_there : (h high from : ℕ) (xs : List ℕ) → IsRising from 256 xs → 0 < length xs → has_high h (map (λ low. high * 256 + low) xs) ≡ eqb high h
high_there h high from [] r some = absurd (omega arith)
high_there h high from (y ∷ []) (a, r) some =
    let own : (high * 256 + y) / 256 ≡ high = omega arith in
    or-false (eqb ((high * 256 + y) / 256) h) ∙ ap (λ (n : ℕ). eqb n h) own
high_there h high from (y ∷ z ∷ zs) (a, r) some =
    let room = rising_room (y + 1) 256 (z ∷ zs) r in
    let own : (high * 256 + y) / 256 ≡ high = omega arith in
    ap (λ (b : Bool). eqb ((high * 256 + y) / 256) h || b) (high_there h high (y + 1) (z ∷ zs) r (omega arith))
    ∙ ap (λ (n : ℕ). eqb n h || eqb high h) own ∙ or_self (eqb high h)

-- numbers of slices have the high bytes of these
highs_there : (h : ℕ) (hs counts bytes : List ℕ) → length hs ≡ length counts → AreSlices counts bytes → has_high h (numbers_of hs counts bytes) ≡ has h hs
unfolding numbers_of
highs_there h [] counts bytes e are = refl
highs_there h (high ∷ hs) [] bytes e are = absurd (omega arith)
highs_there h (high ∷ hs) (less ∷ counts) bytes e (room, is, later) =
    let own : List ℕ = slice_numbers (less + 1) (take (slice_len (less + 1)) bytes) in
    let count = is.count_is in
    let rest : List ℕ = drop (slice_len (less + 1)) bytes in
    list_any-append (λ x. eqb (x / 256) h) (map (λ low. high * 256 + low) own) (numbers_of hs counts rest)
    ∙ ap (λ (b : Bool). b || has_high h (numbers_of hs counts rest)) (high_there h high 0 own is.rising (omega arith))
    ∙ ap (λ (b : Bool). eqb high h || b) (highs_there h hs counts rest (omega arith) later)

-- ---- parts, by the bits of their high bytes

pub parts_those : (parts : Parts) (P : ℕ → Bool) → ((i : ℕ) → i < 256 → P i ≡ has i (slice_numbers (length parts.counts.now) parts.highs.now))
    → those 256 P ≡ slice_numbers (length parts.counts.now) parts.highs.now
parts_those parts P same = those_are P 256 (slice_numbers (length parts.counts.now) parts.highs.now) parts.occur.rising same

pub parts_count : (parts : Parts) (P : ℕ → Bool) → ((i : ℕ) → i < 256 → P i ≡ has i (slice_numbers (length parts.counts.now) parts.highs.now))
    → length (those 256 P) ≡ length parts.counts.now
parts_count parts P same = ap length (parts_those parts P same) ∙ parts.occur.count_is

pub parts_highs : (parts : Parts) (h : ℕ) → has h (slice_numbers (length parts.counts.now) parts.highs.now) ≡ has_high h (numbers_in_parts parts)
parts_highs parts h = sym (highs_there h (slice_numbers (length parts.counts.now) parts.highs.now) parts.counts.now parts.slices.now parts.occur.count_is parts.are)
