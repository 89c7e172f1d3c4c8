-- How many bits are 1, and what tells a slice.
use Rattle.std.proofs.Common.{◌≡◌, ℕ, zero, suc, ◌+◌, ◌*◌, ◌/◌, ◌%◌, ◌^◌, ◌<◌, ◌≤◌, Bool, true, eqb, List, [], ◌∷◌, length, refl, sym, ap, ◌∙◌, arith, cond, lit<, subst, mod-eq_of_lt, pow-suc, get_or, lit≤, drop, eqb-true, eq-eqb}
use Rattle.std.proofs.lemmas.List.{drop_all, drop_more}
use Rattle.std.specs.List.Sorted.{IsStrictlyIncreasing}
use Rattle.std.specs.Int.{bit_at}
use Rattle.std.specs.Int.RustNames.{count_ones}
use Rattle.std.specs.List.{range_with_len}
use Rattle.std.specs.Bool.{Decides}
use Rattle.std.proofs.lemmas.Bool.{cond_above, cond_below}
use Rattle.std.proofs.lemmas.Nat.{mod-pow-add, ones_cat, shr-shr, mod_below}
use Rattle.bitpack_slices.proofs.lemmas.slices.SliceLaws.{slice_few, slice_many, slice_some}
use Rattle.bitpack_slices.proofs.lemmas.bits.OnesLaws.{number_little, ones_all, ones_rise}
use Rattle.bitpack_slices.proofs.lemmas.bytes.Bytes.{EachByte}
use Rattle.bitpack_slices.specs.Bodies.{IsRising, le_bytes, slice}
use Rattle.bitpack_slices.specs.Slices.{IsSlice, bits_in, number_of, numbers_in, ones_from, slice_len, slice_numbers}

one_more : (b low : ℕ) (xs : List ℕ) → b < 2 → length (cond (eqb b 1) (low ∷ xs) xs) ≡ length xs + count_ones b
unfolding count_ones
one_more zero low xs h = omega arith
one_more (suc zero) low xs h = omega arith
one_more (suc (suc b)) low xs h = absurd (omega arith)

length_next : (x low n : ℕ) (xs : List ℕ) → length xs ≡ count_ones (x / 2 ^ (low + 1) % 2 ^ n)
    → length (cond (eqb (bit_at x low) 1) (low ∷ xs) xs) ≡ count_ones (x / 2 ^ low % 2 ^ (n + 1))
length_next x low n xs ih =
    let half : x / 2 ^ low / 2 ≡ x / 2 ^ (low + 1) = shr-shr x low 1 in
    let cut : (x / 2 ^ low) % 2 ^ (n + 1) ≡ (x / 2 ^ low / 2 % 2 ^ n) * 2 + x / 2 ^ low % 2 = mod-pow-add (x / 2 ^ low) n 1 in
    let small : bit_at x low < 2 = mod_below (x / 2 ^ low) 2 (lit< tt) in
    one_more (bit_at x low) low xs small
    ∙ ap (λ (m : ℕ). m + count_ones (bit_at x low)) (ih ∙ ap (λ (m : ℕ). count_ones (m % 2 ^ n)) (sym half))
    ∙ sym (ones_cat 1 (x / 2 ^ low / 2 % 2 ^ n) (bit_at x low) small) ∙ ap count_ones (sym cut)

pub ones_length : (x low n : ℕ) → length (ones_from x low n) ≡ count_ones (x / 2 ^ low % 2 ^ n)
unfolding ones_from count_ones
ones_length x low zero = let e : x / 2 ^ low % 1 ≡ 0 = omega arith in sym (ap count_ones e)
ones_length x low (suc n) =
    let same : n + 1 ≡ suc n = omega arith in
    subst (λ (k : ℕ). length (ones_from x low (suc n)) ≡ count_ones (x / 2 ^ low % 2 ^ k)) same (length_next x low n (ones_from x (low + 1) n) (ones_length x (low + 1) n))

-- of a number that has no other bits
pub ones_counted : (x n : ℕ) → x < 2 ^ n → length (ones_from x 0 n) ≡ count_ones x
ones_counted x n h =
    let one : x / 2 ^ 0 ≡ x = omega arith in
    ones_length x 0 n ∙ ap (λ (m : ℕ). count_ones (m % 2 ^ n)) one ∙ ap count_ones (mod-eq_of_lt h)

pub number_below : (bytes : List ℕ) → EachByte bytes → number_of bytes < 256 ^ length bytes
unfolding number_of
number_below [] h = lit< tt
number_below (byte ∷ bytes) (a, b) =
    let r : number_of bytes < 256 ^ length bytes = number_below bytes b in
    let e : 256 ^ suc (length bytes) ≡ 256 ^ length bytes * 256 = pow-suc 256 (length bytes) in
    omega arith

pub bits_counted : (bytes : List ℕ) → EachByte bytes → count_ones (number_of bytes) ≡ bits_in bytes
unfolding number_of bits_in count_ones
bits_counted [] h = refl
bits_counted (byte ∷ bytes) (a, b) =
    let turned : byte + 256 * number_of bytes ≡ number_of bytes * 2 ^ 8 + byte = omega arith in
    let ih : count_ones (number_of bytes) ≡ bits_in bytes = bits_counted bytes b in
    let cat : count_ones (number_of bytes * 2 ^ 8 + byte) ≡ count_ones (number_of bytes) + count_ones byte = ones_cat 8 (number_of bytes) byte a in
    ap count_ones turned ∙ cat ∙ omega arith

-- ---- what tells a slice

pub few_numbers : (count : ℕ) (bytes : List ℕ) → count < 32 → slice_numbers count bytes ≡ bytes
few_numbers count bytes h = sym (cond_below count 32 bytes _ h)

pub some_numbers : (count : ℕ) (bytes : List ℕ) → 32 ≤ count → count < 256 → slice_numbers count bytes ≡ ones_from (number_of bytes) 0 256
some_numbers count bytes h k = sym (cond_above count 32 _ _ _ h (cond_below count 256 _ _ k))

-- up to 31 numbers: they rise
pub few_slice : (count : ℕ) (bytes : List ℕ) → count < 32 → length bytes ≡ count → IsRising 0 256 bytes → IsSlice count bytes
few_slice count bytes few size rises =
    let e = few_numbers count bytes few in
    record { rising = subst (IsRising 0 256) (sym e) rises; count_is = ap length e ∙ size; encoding = ap slice e ∙ slice_few bytes (omega arith) }

-- 32 to 255: as many bits are 1
pub some_slice : (count : ℕ) (bytes : List ℕ) → 32 ≤ count → count < 256 → length bytes ≡ 32 → EachByte bytes → bits_in bytes ≡ count → IsSlice count bytes
some_slice count bytes more some size are counted =
    let below : number_of bytes < 256 ^ length bytes = number_below bytes are in
    let small : number_of bytes < 2 ^ 256 = subst (λ (n : ℕ). number_of bytes < 256 ^ n) size below in
    let e = some_numbers count bytes more some in
    let many : length (ones_from (number_of bytes) 0 256) ≡ count = ones_counted (number_of bytes) 256 small ∙ bits_counted bytes are ∙ counted in
    let back : le_bytes 32 (number_of bytes) ≡ bytes = subst (λ (n : ℕ). le_bytes n (number_of bytes) ≡ bytes) size (number_little bytes are) in
    record {
      rising = subst (IsRising 0 256) (sym e) (ones_rise (number_of bytes) 0 256);
      count_is = ap length e ∙ many;
      encoding = ap slice e ∙ slice_some (ones_from (number_of bytes) 0 256) (omega arith) (omega arith) ∙ ap (le_bytes 32) (ones_all (number_of bytes) 256 small) ∙ back;
    }

-- and only then
pub some_counted : (count : ℕ) (bytes : List ℕ) → 32 ≤ count → count < 256 → length bytes ≡ 32 → EachByte bytes → IsSlice count bytes → bits_in bytes ≡ count
some_counted count bytes more some size are is =
    let below : number_of bytes < 256 ^ length bytes = number_below bytes are in
    let small : number_of bytes < 2 ^ 256 = subst (λ (n : ℕ). number_of bytes < 256 ^ n) size below in
    let e = some_numbers count bytes more some in
    sym (bits_counted bytes are) ∙ sym (ones_counted (number_of bytes) 256 small) ∙ sym (ap length e) ∙ is.count_is

pub bytes_are : (xs : List ℕ) → ((k : ℕ) → get_or xs k 0 < 256) → EachByte xs
bytes_are [] h = tt
bytes_are (x ∷ xs) h = (h 0, bytes_are xs (λ k. h (suc k)))

pub later_rise : (x : ℕ) (xs : List ℕ) → IsStrictlyIncreasing (x ∷ xs) → IsStrictlyIncreasing xs
later_rise x xs h k lt =
    let e : suc k + 1 ≡ suc (k + 1) = omega arith in
    subst (λ (n : ℕ). get_or (x ∷ xs) (suc k) 0 < get_or (x ∷ xs) n 0) e (h (suc k) (omega arith))

small' : (x : ℕ) → x < 256 → x + 1 ≤ 256
small' x h = omega arith

second : (x : ℕ) (xs : List ℕ) → IsStrictlyIncreasing (x ∷ xs) → 0 < length xs → x + 1 ≤ get_or xs 0 0
second x xs h some = let r = h 0 (omega arith) in omega arith

-- increasing bytes
pub rising_of_strict : (low : ℕ) (xs : List ℕ) → ((k : ℕ) → get_or xs k 0 < 256) → low ≤ 256 → (0 < length xs → low ≤ get_or xs 0 0) → IsStrictlyIncreasing xs → IsRising low 256 xs
rising_of_strict low [] small room first h = room
rising_of_strict low (x ∷ xs) small room first h =
    (first (omega arith), rising_of_strict (x + 1) xs (λ k. small (suc k)) (small' x (small 0)) (second x xs h) (later_rise x xs h))

pub rising_to : (low high : ℕ) (xs : List ℕ) → IsRising low high xs → IsStrictlyIncreasing xs
rising_to low high [] h k lt = absurd (omega arith)
rising_to low high (x ∷ []) h k lt = absurd (omega arith)
rising_to low high (x ∷ y ∷ ys) (a, (b, r)) zero lt = omega arith
rising_to low high (x ∷ y ∷ ys) (a, r) (suc k) lt =
    let e : suc (k + 1) ≡ suc k + 1 = omega arith in
    let ih : get_or (y ∷ ys) k 0 < get_or (y ∷ ys) (k + 1) 0 = rising_to (x + 1) high (y ∷ ys) r k (omega arith) in
    subst (λ (n : ℕ). get_or (x ∷ y ∷ ys) (suc k) 0 < get_or (x ∷ y ∷ ys) n 0) e ih

all_rise : (low n : ℕ) → IsRising low (low + n) (range_with_len low n)
all_rise low zero = omega arith
all_rise low (suc n) =
    let e : (low + 1) + n ≡ low + suc n = omega arith in
    (omega arith, subst (λ (h : ℕ). IsRising (low + 1) h (range_with_len (low + 1) n)) e (all_rise (low + 1) n))

pub full_rise : IsRising 0 256 (range_with_len 0 256)
full_rise = all_rise 0 256

-- a full slice has no bytes
pub full_slice : (bytes : List ℕ) → length bytes ≡ 0 → IsSlice 256 bytes
full_slice [] h = record { rising = full_rise; count_is = refl; encoding = slice_many (range_with_len 0 256) (lit≤ tt) }
full_slice (x ∷ xs) h = absurd (omega arith)

pub bits_done : (xs : List ℕ) (i : ℕ) → length xs ≤ i → bits_in (drop i xs) ≡ 0
unfolding bits_in
bits_done xs i h = ap bits_in (drop_all i xs h)

pub decide_few : (count : ℕ) (bytes : List ℕ) (r : Bool) → count < 32 → length bytes ≡ slice_len count → ((k : ℕ) → get_or bytes k 0 < 256)
    → Decides r (IsStrictlyIncreasing bytes) → Decides r (IsSlice count bytes)
decide_few count bytes r few size small (yields, needs) =
    let long : length bytes ≡ count = size ∙ sym (cond_below count 32 count _ few) in (
      λ e. few_slice count bytes few long (rising_of_strict 0 bytes small (lit≤ tt) (λ some. omega arith) (yields e)),
      λ is. needs (rising_to 0 256 bytes (subst (IsRising 0 256) (few_numbers count bytes few) is.rising)),
    )

pub decide_some : (count n : ℕ) (bytes : List ℕ) → 32 ≤ count → count < 256 → length bytes ≡ slice_len count → ((k : ℕ) → get_or bytes k 0 < 256)
    → n ≡ bits_in bytes → Decides (eqb n count) (IsSlice count bytes)
decide_some count n bytes more some size small same =
    let long : length bytes ≡ 32 = size ∙ sym (cond_above count 32 _ _ _ more (cond_below count 256 32 0 some)) in (
      λ e. some_slice count bytes more some long (bytes_are bytes small) (sym same ∙ eqb-true n count e),
      λ is. eq-eqb n count (same ∙ some_counted count bytes more some long (bytes_are bytes small) is),
    )

pub decide_full : (count : ℕ) (bytes : List ℕ) → 256 ≤ count → count ≤ 256 → length bytes ≡ slice_len count → Decides true (IsSlice count bytes)
decide_full count bytes more most size =
    let none : length bytes ≡ 0 = size ∙ sym (cond_above count 32 _ _ _ (omega arith) (cond_above count 256 32 0 _ more refl)) in
    let same : 256 ≡ count = omega arith in
    (λ e. subst (λ (n : ℕ). IsSlice n bytes) same (full_slice bytes none), λ is. refl)

pub numbers_drop : (xs : List ℕ) (i : ℕ) → i < length xs → numbers_in (drop i xs) ≡ get_or xs i 0 + 1 + numbers_in (drop (i + 1) xs)
unfolding numbers_in
numbers_drop xs i h = ap numbers_in (drop_more xs i 0 h)

pub numbers_done : (xs : List ℕ) (i : ℕ) → length xs ≤ i → numbers_in (drop i xs) ≡ 0
unfolding numbers_in
numbers_done xs i h = ap numbers_in (drop_all i xs h)
