-- Bits are counted by words, and bytes compared 32 at a time.
use Rattle.std.proofs.Common.{◌≡◌, ℕ, zero, suc, ◌+◌, ◌*◌, ◌/◌, ◌%◌, ◌^◌, ◌-◌, ◌<◌, ◌≤◌, Bool, true, false, eqb, leb, List, [], ◌∷◌, take, drop, length, get_or, refl, sym, ap, ◌∙◌, arith, cond, inl, inr, subst, bit_and, eqb-true, eq-eqb, lit<, w8, map, mod-eq_of_lt, pow_pos}
use lib.Lanes.{chunk, mask_l, top, zip2}
use mir.Val.{hbits, bits}
use Rattle.std.specs.Bool.{Decides}
use Rattle.std.specs.Int.RustNames.{count_ones}
use Rattle.std.specs.List.Sorted.{IsStrictlyIncreasing}
use Rattle.std.proofs.lemmas.Bool.{cases_lt, cond_below, lt-leb, le-leb, true≢false}
use Rattle.std.proofs.lemmas.List.{drop-drop, get_or-drop}
use Rattle.std.proofs.lemmas.Nat.{and_mask, mod-pow-add, one_shl, shr-shr}
use Rattle.std.proofs.lemmas.Simd.{get_or-chunk, get_or-zip2, length-chunk, length-zip2, mask_l-mod, tops_compared}
use Rattle.bitpack_slices.proofs.lemmas.bytes.Bytes.{EachByte, byte_of}
use Rattle.bitpack_slices.proofs.lemmas.bits.CountLaws.{bits_counted, bytes_are, decide_few}
use Rattle.bitpack_slices.proofs.lemmas.bytes.DecodeLaws.{bytes_dropped}
use Rattle.bitpack_slices.proofs.lemmas.bodies.TestLaws.{bytes_taken}
use Rattle.bitpack_slices.specs.Slices.{IsSlice, bits_in, number_of, slice_len}

-- ---- words

bits_split : (k : ℕ) (xs : List ℕ) → bits_in xs ≡ bits_in (take k xs) + bits_in (drop k xs)
unfolding bits_in
bits_split zero xs = omega arith
bits_split (suc k) [] = omega arith
bits_split (suc k) (x ∷ xs) = let ih = bits_split k xs in omega arith

-- the bits of one word more
pub word_bits : (i : ℕ) (bytes : List ℕ) → EachByte bytes
    → bits_in (drop (8 * i) bytes) ≡ count_ones (number_of (take 8 (drop (8 * i) bytes))) + bits_in (drop (8 * (i + 1)) bytes)
word_bits i bytes are =
    let rest = drop (8 * i) bytes in
    let next : 8 * i + 8 ≡ 8 * (i + 1) = omega arith in
    let word = bits_counted (take 8 rest) (bytes_taken 8 rest (bytes_dropped (8 * i) bytes are)) in
    let later = ap bits_in (drop-drop 8 (8 * i) bytes ∙ ap (λ (n : ℕ). drop n bytes) next) in
    let both = bits_split 8 rest in
    omega arith

-- ---- which bytes are not above those before them

abbrev pub falls : ℕ → List ℕ → List Bool
falls start xs = zip2 leb (chunk (start + 1) 32 xs) (chunk start 32 xs)

-- as the code matches them
abbrev pub matched : ℕ → List ℕ → ℕ
matched start xs = mask_l (map (top (hbits w8)) (zip2 (λ a b. cond (leb a b) (2 ^ bits w8 - 1) 0) (chunk (start + 1) 32 xs) (chunk start 32 xs))) % 2 ^ 64

falls_long : (start : ℕ) (xs : List ℕ) → start + 33 ≤ length xs → length (falls start xs) ≡ 32
falls_long start xs h =
    let these = length-chunk start 32 xs (omega arith) in
    let next = length-chunk (start + 1) 32 xs (omega arith) in
    length-zip2 leb (chunk (start + 1) 32 xs) (chunk start 32 xs) (next ∙ sym these) ∙ next

matched_is : (start : ℕ) (xs : List ℕ) → start + 33 ≤ length xs → matched start xs ≡ mask_l (falls start xs)
matched_is start xs h =
    ap (λ (ms : List Bool). mask_l ms % 2 ^ 64) (tops_compared w8 leb (chunk (start + 1) 32 xs) (chunk start 32 xs))
    ∙ mask_l-mod (falls start xs) 64 (let size = falls_long start xs h in omega arith)

fall_at : (start : ℕ) (xs : List ℕ) (i : ℕ) → start + 33 ≤ length xs → i < 32
    → get_or (falls start xs) i false ≡ leb (get_or xs (start + (i + 1)) 0) (get_or xs (start + i) 0)
fall_at start xs i h small =
    let these = length-chunk start 32 xs (omega arith) in
    let next = length-chunk (start + 1) 32 xs (omega arith) in
    let e : start + 1 + i ≡ start + (i + 1) = omega arith in
    get_or-zip2 leb (chunk (start + 1) 32 xs) (chunk start 32 xs) i 0 0 false (omega arith) (omega arith)
    ∙ ap (λ (y : ℕ). leb y (get_or (chunk start 32 xs) i 0)) (get_or-chunk (start + 1) 32 xs i 0 small ∙ ap (λ (n : ℕ). get_or xs n 0) e)
    ∙ ap (leb (get_or xs (start + (i + 1)) 0)) (get_or-chunk start 32 xs i 0 small)

above : (x y : ℕ) → leb y x ≡ false → x < y
above x y e = elim (cases_lt x y) [ inl less ↦ less | inr more ↦ absurd (true≢false (sym (le-leb y x more) ∙ e)) ]

-- ---- the first n bits are 0

bit_small : (b : Bool) → cond b 1 0 < 2
bit_small true = lit< tt
bit_small false = lit< tt

low_next : (n b m : ℕ) → b < 2 → (b + 2 * m) % 2 ^ suc n ≡ b + 2 * (m % 2 ^ n)
low_next n b m small =
    let cut = mod-pow-add (b + 2 * m) n 1 in
    let half : (b + 2 * m) / 2 ≡ m = omega arith in
    let low : (b + 2 * m) % 2 ≡ b = omega arith in
    let rest = ap (λ (k : ℕ). k % 2 ^ n) half in
    let same : suc n ≡ n + 1 = omega arith in
    ap (λ (k : ℕ). (b + 2 * m) % 2 ^ k) same ∙ omega arith

none_of : (n : ℕ) (bs : List Bool) → mask_l bs % 2 ^ n ≡ 0 → (i : ℕ) → i < n → get_or bs i false ≡ false
none_of zero bs e i h = absurd (omega arith)
none_of (suc n) [] e i h = refl
none_of (suc n) (true ∷ bs) e i h = let next = low_next n 1 (mask_l bs) (lit< tt) in absurd (omega arith)
none_of (suc n) (false ∷ bs) e zero h = refl
none_of (suc n) (false ∷ bs) e (suc i) h = let next = low_next n 0 (mask_l bs) (lit< tt) in none_of n bs (omega arith) i (omega arith)

all_none : (n : ℕ) (bs : List Bool) → ((i : ℕ) → i < n → get_or bs i false ≡ false) → mask_l bs % 2 ^ n ≡ 0
all_none zero bs h = let one : mask_l bs % 1 ≡ 0 = omega arith in one
all_none (suc n) [] h = let some = pow_pos (suc n) in mod-eq_of_lt some
all_none (suc n) (true ∷ bs) h = absurd (true≢false (h 0 (omega arith)))
all_none (suc n) (false ∷ bs) h =
    let ih = all_none n bs (λ i less. h (suc i) (omega arith)) in
    let next = low_next n 0 (mask_l bs) (lit< tt) in
    omega arith

-- a shift drops the first
mask_drop : (n : ℕ) (bs : List Bool) → mask_l bs / 2 ^ n ≡ mask_l (drop n bs)
mask_drop zero bs = let one : mask_l bs / 1 ≡ mask_l bs = omega arith in one
mask_drop (suc n) [] = omega arith
mask_drop (suc n) (b ∷ bs) =
    let same : suc n ≡ 1 + n = omega arith in
    let small : cond b 1 0 < 2 = bit_small b in
    let half : (cond b 1 0 + 2 * mask_l bs) / 2 ^ 1 ≡ mask_l bs = omega arith in
    ap (λ (k : ℕ). (cond b 1 0 + 2 * mask_l bs) / 2 ^ k) same ∙ sym (shr-shr (cond b 1 0 + 2 * mask_l bs) 1 n) ∙ ap (λ (m : ℕ). m / 2 ^ n) half ∙ mask_drop n bs

-- ---- the test of up to 31 bytes

pub rises_tested : (from start count : ℕ) (xs : List ℕ) → 1 ≤ count → count < 32 → from + 33 ≤ length xs → from ≤ start → start + count ≤ from + 33
    → Decides (eqb (bit_and (matched from xs / 2 ^ (start - from)) (1 * 2 ^ (count - 1) % 2 ^ 64 - 1)) 0) (IsStrictlyIncreasing (take count (drop start xs)))
rises_tested from start count xs some few room before within =
    let s : ℕ = start - from in
    let bs : List Bool = drop s (falls from xs) in
    let long = length-chunk start count xs (omega arith) in
    let at : (k : ℕ) → k < count → get_or (take count (drop start xs)) k 0 ≡ get_or xs (start + k) 0 = λ k h. get_or-chunk start count xs k 0 h in
    let fall : (k : ℕ) → k < count - 1 → get_or bs k false ≡ leb (get_or xs (start + (k + 1)) 0) (get_or xs (start + k) 0) = λ k h.
    let same : from + (s + k) ≡ start + k = omega arith in
    let next : from + (s + k + 1) ≡ start + (k + 1) = omega arith in
    get_or-drop s (falls from xs) k false ∙ fall_at from xs (s + k) room (omega arith)
    ∙ ap (λ (n : ℕ). leb (get_or xs n 0) (get_or xs (from + (s + k)) 0)) next ∙ ap (λ (n : ℕ). leb (get_or xs (start + (k + 1)) 0) (get_or xs n 0)) same in
    let cut : bit_and (matched from xs / 2 ^ s) (1 * 2 ^ (count - 1) % 2 ^ 64 - 1) ≡ mask_l bs % 2 ^ (count - 1) =
    ap (λ (k : ℕ). bit_and (matched from xs / 2 ^ s) (k - 1)) (one_shl (count - 1) 64 (omega arith)) ∙ and_mask (matched from xs / 2 ^ s) (count - 1)
    ∙ ap (λ (k : ℕ). k / 2 ^ s % 2 ^ (count - 1)) (matched_is from xs room) ∙ ap (λ (k : ℕ). k % 2 ^ (count - 1)) (mask_drop s (falls from xs)) in (
      λ e k less.
          let none = none_of (count - 1) bs (sym cut ∙ eqb-true _ 0 e) k (omega arith) in
          let up = above (get_or xs (start + k) 0) (get_or xs (start + (k + 1)) 0) (sym (fall k (omega arith)) ∙ none) in
          let this = at k (omega arith) in
          let next = at (k + 1) (omega arith) in
          omega arith,
      λ rise. eq-eqb _ 0 (cut ∙ all_none (count - 1) bs (λ i h.
          let up = rise i (omega arith) in
          let this = at i (omega arith) in
          let next = at (i + 1) (omega arith) in
          fall i h ∙ lt-leb (get_or xs (start + (i + 1)) 0) (get_or xs (start + i) 0) (omega arith))),
    )

-- they are a slice
pub decide_part : (count start : ℕ) (xs : List ℕ) (r : Bool) → count < 32 → start + slice_len count ≤ length xs → ((k : ℕ) → get_or xs k 0 < 256)
    → Decides r (IsStrictlyIncreasing (take count (drop start xs))) → Decides r (IsSlice count (take (slice_len count) (drop start xs)))
decide_part count start xs r few room small d =
    let size : count ≡ slice_len count = cond_below count 32 count _ few in
    decide_few count (take (slice_len count) (drop start xs)) r few (length-chunk start (slice_len count) xs room)
    (byte_of (take (slice_len count) (drop start xs)) (bytes_taken (slice_len count) (drop start xs) (bytes_dropped start xs (bytes_are xs small))))
    (subst (λ (n : ℕ). Decides r (IsStrictlyIncreasing (take n (drop start xs)))) size d)
