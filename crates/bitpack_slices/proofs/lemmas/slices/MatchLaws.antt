-- The matches of bytes that are among others.
use Rattle.std.proofs.Common.{◌≡◌, ℕ, zero, suc, ◌+◌, ◌*◌, ◌%◌, ◌^◌, ◌-◌, ◌<◌, ◌≤◌, Bool, true, false, ◌||◌, ◌&&◌, eqb, ltb, List, [], ◌∷◌, ◌++◌, length-append, length-drop, take-add, drop, map, take, length, refl, sym, ap, ◌∙◌, arith, cond, inl, inr, subst, get_or, bit_and, bit_or, min, eq-eqb, pow_pos, w8}
use lib.Lanes.{chunk, mask_l, pick_l, top, zip2}
use Rattle.std.specs.Int.{bit_at}
use Rattle.std.specs.List.{range_with_len}
use Rattle.std.proofs.lemmas.Bool.{cases_lt, le-ltb, lt-ltb, ne_eqb}
use Rattle.std.proofs.lemmas.List.{append-nil, drop_all, get_or_append_left, get_or-drop, take_all, get_or-map, length-map}
use Rattle.std.proofs.lemmas.Nat.Bits.{and_pow, bit_at-lt, bit_at_and, bit_at_cat_high, bit_at_cat_low, bit_at_ones, bit_at_ones_above}
use Rattle.std.proofs.lemmas.Nat.{one_shl}
use Rattle.std.specs.Int.Bits.{or_shifted_r}
use Rattle.std.proofs.lemmas.Simd.{bit_mask_l, chunk-drop, get_or-chunk, pick_l-range_with_len, get_or-zip2, length-zip2, mask_l-lt, mask_l-mod, tops_compared}
use Rattle.bitpack_slices.proofs.lemmas.bits.BitmapLaws.{has_more}
use Rattle.bitpack_slices.proofs.lemmas.bodies.ReadLaws.{eqb_same, has_append}
use Rattle.bitpack_slices.specs.Reads.{has}

-- ---- bits as tests

min_bit : (a : ℕ) → a < 2 → eqb (min a 1) 1 ≡ eqb a 1
min_bit zero h = refl
min_bit (suc zero) h = refl
min_bit (suc (suc a)) h = absurd (omega arith)

cut_bit : (a : ℕ) → a < 2 → eqb (min a 0) 1 ≡ false
cut_bit zero h = refl
cut_bit (suc zero) h = refl
cut_bit (suc (suc a)) h = absurd (omega arith)

-- ---- matches of the bytes that are another

abbrev pub matches_of : ℕ → List ℕ → ℕ
matches_of y bytes = mask_l (map (λ x. eqb x y) bytes)

pub matches_small : (bytes : List ℕ) (y m : ℕ) → length bytes ≡ 32 → m ≡ matches_of y bytes → m < 2 ^ 32
matches_small bytes y m size e =
    let long : length (map (λ x. eqb x y) bytes) ≡ 32 = length-map bytes (λ x. eqb x y) ∙ size in
    let few : matches_of y bytes < 2 ^ 32 = subst (λ (n : ℕ). matches_of y bytes < 2 ^ n) long (mask_l-lt (map (λ x. eqb x y) bytes)) in
    subst (λ (n : ℕ). n < 2 ^ 32) (sym e) few

match_is : (bytes : List ℕ) (y i : ℕ) → i < length bytes → bit_at (matches_of y bytes) i ≡ cond (eqb (get_or bytes i 0) y) 1 0
match_is bytes y i h = bit_mask_l (map (λ x. eqb x y) bytes) i ∙ ap (λ (b : Bool). cond b 1 0) (get_or-map (λ x. eqb x y) bytes i 0 false h)

match_of : (b : Bool) → eqb (cond b 1 0) 1 ≡ b
match_of true = refl
match_of false = refl

pub match_known : (bytes : List ℕ) (y m i : ℕ) → length bytes ≡ 32 → m ≡ matches_of y bytes → i < 32 → eqb (bit_at m i) 1 ≡ eqb (get_or bytes i 0) y
match_known bytes y m i size e lt =
    ap (λ (k : ℕ). eqb (bit_at k i) 1) e ∙ ap (λ (b : ℕ). eqb b 1) (match_is bytes y i (omega (arith, lt, size))) ∙ match_of (eqb (get_or bytes i 0) y)

-- ---- four others, the last again if they are fewer

four_or : (a b c d : Bool) → (((a || b) || c) || d) ≡ (d || (c || (b || (a || false))))
four_or true true true true = refl
four_or true true true false = refl
four_or true true false true = refl
four_or true true false false = refl
four_or true false true true = refl
four_or true false true false = refl
four_or true false false true = refl
four_or true false false false = refl
four_or false true true true = refl
four_or false true true false = refl
four_or false true false true = refl
four_or false true false false = refl
four_or false false true true = refl
four_or false false true false = refl
four_or false false false true = refl
four_or false false false false = refl

no_more : (e q r : Bool) → (e || r) ≡ r → (e || (q || r)) ≡ (q || r)
no_more true true r ih = refl
no_more false true r ih = refl
no_more e false r ih = ih

again : (q r : Bool) → (q || (q || r)) ≡ (q || r)
again true r = refl
again false r = refl

-- an element is there already
has_one : (x : ℕ) (xs : List ℕ) (i : ℕ) → i < length xs → (eqb x (get_or xs i 0) || has x xs) ≡ has x xs
has_one x [] i lt = absurd (omega arith)
has_one x (y ∷ xs) zero lt = ap (λ (b : Bool). b || (eqb y x || has x xs)) (eqb_same x y y x sym sym) ∙ again (eqb y x) (has x xs)
has_one x (y ∷ xs) (suc i) lt = no_more (eqb x (get_or xs i 0)) (eqb y x) (has x xs) (has_one x xs i (omega arith))

-- one more, or the last again
one_more : (x : ℕ) (xs : List ℕ) (n : ℕ) → 0 < length xs → (eqb x (get_or xs (min n (length xs - 1)) 0) || has x (take n xs)) ≡ has x (take (n + 1) xs)
one_more x xs n some = elim (cases_lt n (length xs)) [
  | inl less ↦ (let e : min n (length xs - 1) ≡ n = omega (arith, less) in
      ap (λ (k : ℕ). eqb x (get_or xs k 0) || has x (take n xs)) e ∙ has_more x xs n less)
  | inr more ↦ (let e : min n (length xs - 1) ≡ length xs - 1 = omega (arith, more, some) in
      ap (λ (k : ℕ). eqb x (get_or xs k 0) || has x (take n xs)) e ∙ ap (λ (l : List ℕ). eqb x (get_or xs (length xs - 1) 0) || has x l) (take_all n xs more)
      ∙ has_one x xs (length xs - 1) (omega (arith, some)) ∙ ap (has x) (sym (take_all (n + 1) xs (omega (arith, more)))))
]

one_last : (others : List ℕ) (at k : ℕ) → at < length others → get_or others (min (at + k) (length others - 1)) 0 ≡ get_or (drop at others) (min k (length (drop at others) - 1)) 0
one_last others at k lt =
    let size = length-drop at others in
    let e : min (at + k) (length others - 1) ≡ at + min k (length (drop at others) - 1) = omega (arith, lt, size) in
    ap (λ (i : ℕ). get_or others i 0) e ∙ sym (get_or-drop at others (min k (length (drop at others) - 1)) 0)

four_matched : (x : ℕ) (others : List ℕ) (at : ℕ) → at < length others
    → (((eqb x (get_or others at 0) || eqb x (get_or others (min (at + 1) (length others - 1)) 0)) || eqb x (get_or others (min (at + 2) (length others - 1)) 0))
    || eqb x (get_or others (min (at + 3) (length others - 1)) 0))
    ≡ has x (take 4 (drop at others))
four_matched x others at lt =
    let xs : List ℕ = drop at others in
    let some : 0 < length xs = omega (arith, lt, length-drop at others) in
    let p : ℕ → Bool = λ k. eqb x (get_or xs (min k (length xs - 1)) 0) in
    let first : get_or others at 0 ≡ get_or xs (min 0 (length xs - 1)) 0 =
    ap (λ (i : ℕ). get_or others i 0) (omega (arith, lt)) ∙ one_last others at 0 lt in
    ap (λ (n : ℕ). ((eqb x n || eqb x (get_or others (min (at + 1) (length others - 1)) 0)) || eqb x (get_or others (min (at + 2) (length others - 1)) 0)) || eqb x (get_or others (min (at + 3) (length others - 1)) 0)) first
    ∙ ap (λ (n : ℕ). ((p 0 || eqb x n) || eqb x (get_or others (min (at + 2) (length others - 1)) 0)) || eqb x (get_or others (min (at + 3) (length others - 1)) 0)) (one_last others at 1 lt)
    ∙ ap (λ (n : ℕ). ((p 0 || p 1) || eqb x n) || eqb x (get_or others (min (at + 3) (length others - 1)) 0)) (one_last others at 2 lt)
    ∙ ap (λ (n : ℕ). ((p 0 || p 1) || p 2) || eqb x n) (one_last others at 3 lt)
    ∙ four_or (p 0) (p 1) (p 2) (p 3)
    ∙ ap (λ (b : Bool). p 3 || (p 2 || (p 1 || b))) (one_more x xs 0 some)
    ∙ ap (λ (b : Bool). p 3 || (p 2 || b)) (one_more x xs 1 some)
    ∙ ap (λ (b : Bool). p 3 || b) (one_more x xs 2 some)
    ∙ one_more x xs 3 some

pub four_taken : (x : ℕ) (others : List ℕ) (at j k l : ℕ) → at < length others
    → j ≡ min (at + 1) (length others - 1) → k ≡ min (at + 2) (length others - 1) → l ≡ min (at + 3) (length others - 1)
    → (((eqb x (get_or others at 0) || eqb x (get_or others j 0)) || eqb x (get_or others k 0)) || eqb x (get_or others l 0)) ≡ has x (take 4 (drop at others))
four_taken x others at j k l lt e f g =
    let o : ℕ → Bool = λ i. eqb x (get_or others i 0) in
    ap (λ (n : ℕ). ((o at || o n) || o k) || o l) e ∙ ap (λ (n : ℕ). ((o at || o (min (at + 1) (length others - 1))) || o n) || o l) f
    ∙ ap (λ (n : ℕ). ((o at || o (min (at + 1) (length others - 1))) || o (min (at + 2) (length others - 1))) || o n) g ∙ four_matched x others at lt

-- only of the first bytes
pub matches_first : (matches count i : ℕ) (b : Bool) → count < 32 → eqb (bit_at matches i) 1 ≡ b → eqb (bit_at (bit_and matches (1 * 2 ^ count % 2 ^ 32 - 1)) i) 1 ≡ (ltb i count && b)
matches_first matches count i b few e =
    let mask : 1 * 2 ^ count % 2 ^ 32 ≡ 2 ^ count = one_shl count 32 few in
    ap (λ (k : ℕ). eqb (bit_at (bit_and matches (k - 1)) i) 1) mask ∙ ap (λ (k : ℕ). eqb k 1) (bit_at_and matches (2 ^ count - 1) i)
    ∙ elim (cases_lt i count) [
      | inl less ↦
          ap (λ (k : ℕ). eqb (min (bit_at matches i) k) 1) (bit_at_ones count i less) ∙ min_bit (bit_at matches i) (bit_at-lt matches i) ∙ e
          ∙ sym (ap (λ (c : Bool). c && b) (lt-ltb i count less))
      | inr more ↦
          ap (λ (k : ℕ). eqb (min (bit_at matches i) k) 1) (bit_at_ones_above count i more) ∙ cut_bit (bit_at matches i) (bit_at-lt matches i)
          ∙ sym (ap (λ (c : Bool). c && b) (le-ltb i count more))
    ]

-- ---- matches of 16 bytes by the bytes that have their bits

one_of : (b p : ℕ) → b < 2 → 0 < p → eqb (b * p) p ≡ eqb b 1
one_of zero p h some = ne_eqb (0 * p) p (λ e. absurd (omega (arith, e, some)))
one_of (suc zero) p h some = eq-eqb (1 * p) p (omega arith)
one_of (suc (suc b)) p h some = absurd (omega arith)

one_there : (n k : ℕ) → eqb (bit_and n (2 ^ k)) (2 ^ k) ≡ eqb (bit_at n k) 1
one_there n k = ap (λ (m : ℕ). eqb m (2 ^ k)) (and_pow n k) ∙ one_of (bit_at n k) (2 ^ k) (bit_at-lt n k) (pow_pos k)

module _ (found ones : List ℕ) (long : length found ≡ 16) (long' : length ones ≡ 16) where
  abbrev both : List ℕ
  both = zip2 bit_and found ones

  both_long : length both ≡ 16
  both_long = length-zip2 bit_and found ones (long ∙ sym long') ∙ long

  tests_long : length (zip2 eqb both ones) ≡ 16
  tests_long = length-zip2 eqb both ones (both_long ∙ sym long') ∙ both_long

  abbrev pub half : ℕ
  half = mask_l (map (top 7) (zip2 (λ a b. cond (eqb a b) 255 0) both ones)) % 2 ^ 64

  half_is : half ≡ mask_l (zip2 eqb both ones)
  half_is = ap (λ (ms : List Bool). mask_l ms % 2 ^ 64) (tops_compared w8 eqb both ones) ∙ mask_l-mod (zip2 eqb both ones) 64 (omega (arith, tests_long))

  pub half_small : half < 2 ^ 16
  half_small = subst (λ (n : ℕ). n < 2 ^ 16) (sym half_is) (subst (λ (n : ℕ). mask_l (zip2 eqb both ones) < 2 ^ n) tests_long (mask_l-lt (zip2 eqb both ones)))

  pub half_at : (i byte r : ℕ) → i < 16 → get_or found i 0 ≡ byte → get_or ones i 0 ≡ 2 ^ r → eqb (bit_at half i) 1 ≡ eqb (bit_at byte r) 1
  half_at i byte r lt e f =
      ap (λ (n : ℕ). eqb (bit_at n i) 1) half_is ∙ ap (λ (n : ℕ). eqb n 1) (bit_mask_l (zip2 eqb both ones) i)
      ∙ match_of (get_or (zip2 eqb both ones) i false)
      ∙ get_or-zip2 eqb both ones i 0 0 false (omega (arith, lt, both_long)) (omega (arith, lt, long'))
      ∙ ap (λ (n : ℕ). eqb n (get_or ones i 0)) (get_or-zip2 bit_and found ones i 0 0 0 (omega (arith, lt, long)) (omega (arith, lt, long')))
      ∙ ap (λ (n : ℕ). eqb (bit_and n (get_or ones i 0)) (get_or ones i 0)) e
      ∙ ap (λ (n : ℕ). eqb (bit_and byte n) n) f ∙ one_there byte r

pub halves_join : (bits : List ℕ) → length bits ≡ 32 → chunk 0 16 bits ++ chunk 16 16 bits ≡ bits
halves_join bits size =
    let last : drop 16 bits ≡ chunk 16 16 bits = chunk-drop 16 16 bits ∙ ap (λ (l : List ℕ). chunk 16 16 bits ++ l) (drop_all 32 bits (omega (arith, size))) ∙ append-nil (chunk 16 16 bits) in
    ap (λ (l : List ℕ). chunk 0 16 bits ++ l) (sym last) ∙ sym (chunk-drop 0 16 bits)

-- the matches of 16 bytes, and those of 16 more
two_halves : (first last : ℕ) → first < 2 ^ 16 → last < 2 ^ 16 → bit_or first (last * 2 ^ 16 % 2 ^ 64) ≡ last * 2 ^ 16 + first
two_halves first last a b = let e : last * 2 ^ 16 % 2 ^ 64 ≡ last * 2 ^ 16 = omega arith in ap (bit_or first) e ∙ or_shifted_r last 16 first a

first_half : (first last i : ℕ) → first < 2 ^ 16 → last < 2 ^ 16 → i < 16 → bit_at (bit_or first (last * 2 ^ 16 % 2 ^ 64)) i ≡ bit_at first i
first_half first last i a b lt = ap (λ (n : ℕ). bit_at n i) (two_halves first last a b) ∙ bit_at_cat_low last 16 first i lt

last_half : (first last i : ℕ) → first < 2 ^ 16 → last < 2 ^ 16 → 16 ≤ i → bit_at (bit_or first (last * 2 ^ 16 % 2 ^ 64)) i ≡ bit_at last (i - 16)
last_half first last i a b le = ap (λ (n : ℕ). bit_at n i) (two_halves first last a b) ∙ bit_at_cat_high last 16 first i a le

-- 16 of 32 lanes
pub picked : (bytes : List ℕ) (a i : ℕ) → length bytes ≡ 32 → a + 16 ≤ 32 → i < 16 → get_or (pick_l 0 (bytes ++ bytes) (range_with_len a 16)) i 0 ≡ get_or bytes (a + i) 0
picked bytes a i size room lt =
    ap (λ (l : List ℕ). get_or l i 0) (pick_l-range_with_len 0 (bytes ++ bytes) a 16 (omega (arith, size, room, length-append bytes bytes)))
    ∙ get_or-chunk a 16 (bytes ++ bytes) i 0 lt ∙ get_or_append_left bytes bytes 0 (a + i) (omega (arith, size, room, lt))

pub halves_matched : (first last i : ℕ) (bytes : List ℕ) (P : ℕ → Bool) → length bytes ≡ 32 → first < 2 ^ 16 → last < 2 ^ 16 → i < 32
    → ((k : ℕ) → k < 16 → eqb (bit_at first k) 1 ≡ P (get_or (pick_l 0 (bytes ++ bytes) (range_with_len 0 16)) k 0))
    → ((k : ℕ) → k < 16 → eqb (bit_at last k) 1 ≡ P (get_or (pick_l 0 (bytes ++ bytes) (range_with_len 16 16)) k 0))
    → eqb (bit_at (bit_or first (last * 2 ^ 16 % 2 ^ 64)) i) 1 ≡ P (get_or bytes i 0)
halves_matched first last i bytes P size a b small f l = elim (cases_lt i 16) [
  | inl less ↦
      ap (λ (n : ℕ). eqb n 1) (first_half first last i a b less) ∙ f i less
      ∙ ap P (picked bytes 0 i size (omega arith) less ∙ ap (λ (k : ℕ). get_or bytes k 0) (omega arith))
  | inr more ↦
      ap (λ (n : ℕ). eqb n 1) (last_half first last i a b more) ∙ l (i - 16) (omega (arith, small, more))
      ∙ ap P (picked bytes 16 (i - 16) size (omega arith) (omega (arith, small, more)) ∙ ap (λ (k : ℕ). get_or bytes k 0) (omega (arith, more)))
]

-- ---- bits of four bytes more

pub four_set : (x : ℕ) (bytes : List ℕ) (step : ℕ) (old new : Bool) → new ≡ (old || has x (take 4 (drop (4 * step) bytes))) → old ≡ has x (take (4 * step) bytes)
    → new ≡ has x (take (4 * (step + 1)) bytes)
four_set x bytes step old new e before =
    let next : 4 * step + 4 ≡ 4 * (step + 1) = omega arith in
    e ∙ ap (λ (b : Bool). b || has x (take 4 (drop (4 * step) bytes))) before
    ∙ sym (has_append x (take (4 * step) bytes) (take 4 (drop (4 * step) bytes)))
    ∙ ap (has x) (sym (take-add (4 * step) 4 bytes)) ∙ ap (λ (n : ℕ). has x (take n bytes)) next
