-- The words of bytes, and what is written.
use Rattle.std.proofs.Common.{◌≡◌, ℕ, zero, suc, ◌+◌, ◌*◌, ◌^◌, ◌<◌, ◌≤◌, List, [], ◌∷◌, ◌++◌, map, take, drop, length, get_or, set, refl, sym, ap, ◌∙◌, arith, lit<, subst, append_assoc, append-nil, pow-add, length-drop}
use Rattle.std.specs.List.{range_with_len}
use Rattle.std.proofs.lemmas.List.{drop-drop, drop_all, drop_more, length-map, map-append, take_more, take_more_set, take_all}
use Rattle.bitpack_slices.proofs.lemmas.slices.SliceLaws.{rising_room}
use Rattle.bitpack_slices.proofs.lemmas.bits.RaisedLaws.{map_raised}
use Rattle.bitpack_slices.proofs.lemmas.bytes.Bytes.{EachByte}
use Rattle.bitpack_slices.specs.Bodies.{IsRising}
use Rattle.bitpack_slices.specs.Slices.{AreSlices, IsSlice, number_of, numbers_of, slice_len, slice_numbers}

-- ---- words

pub number_take : (n k k' : ℕ) (bytes : List ℕ) → k' ≡ k + 1 → k < length bytes
    → number_of (take (suc n) (drop k bytes)) ≡ get_or bytes k 0 + 256 * number_of (take n (drop k' bytes))
unfolding number_of
number_take n k k' bytes e h =
    ap (λ (l : List ℕ). number_of (take (suc n) l)) (drop_more bytes k 0 h) ∙ ap (λ (m : ℕ). get_or bytes k 0 + 256 * number_of (take n (drop m bytes))) (sym e)

none_left : (bytes : List ℕ) → number_of (take 0 bytes) ≡ 0
unfolding number_of
none_left bytes = refl

pub word_number : (k : ℕ) (bytes : List ℕ) → k + 8 ≤ length bytes
    → number_of (take 8 (drop k bytes)) ≡ get_or bytes k 0 + 256 * get_or bytes (k + 1) 0 + 65536 * get_or bytes (k + 2) 0 + 16777216 * get_or bytes (k + 3) 0
    + 4294967296 * get_or bytes (k + 4) 0 + 1099511627776 * get_or bytes (k + 5) 0 + 281474976710656 * get_or bytes (k + 6) 0 + 72057594037927936 * get_or bytes (k + 7) 0
word_number k bytes h =
    let a = number_take 7 k (k + 1) bytes (omega arith) (omega arith) in
    let b = number_take 6 (k + 1) (k + 2) bytes (omega arith) (omega arith) in
    let c = number_take 5 (k + 2) (k + 3) bytes (omega arith) (omega arith) in
    let d = number_take 4 (k + 3) (k + 4) bytes (omega arith) (omega arith) in
    let e = number_take 3 (k + 4) (k + 5) bytes (omega arith) (omega arith) in
    let f = number_take 2 (k + 5) (k + 6) bytes (omega arith) (omega arith) in
    let g = number_take 1 (k + 6) (k + 7) bytes (omega arith) (omega arith) in
    let i = number_take 0 (k + 7) (k + 8) bytes (omega arith) (omega arith) in
    let j = none_left (drop (k + 8) bytes) in
    omega arith

next_power : (k : ℕ) → 2 ^ (8 * suc k) ≡ 2 ^ (8 * k) * 256
next_power k = let e : 8 * suc k ≡ 8 * k + 8 = omega arith in ap (λ (n : ℕ). 2 ^ n) e ∙ pow-add 2 (8 * k) 8

pub ring : (b w p r : ℕ) → b + 256 * (w * p + r) ≡ w * (p * 256) + (b + 256 * r)
ring b w p r = grind arith

pub number_split : (k n : ℕ) (bytes : List ℕ) → k ≤ length bytes
    → number_of (take (k + n) bytes) ≡ number_of (take n (drop k bytes)) * 2 ^ (8 * k) + number_of (take k bytes)
unfolding number_of
number_split zero n bytes h =
    let e : zero + n ≡ n = omega arith in
    let f = ap (λ (m : ℕ). number_of (take m bytes)) e in
    omega arith
number_split (suc k) n [] h = absurd (omega arith)
number_split (suc k) n (b ∷ bytes) h =
    let e : suc k + n ≡ suc (k + n) = omega arith in
    ap (λ (m : ℕ). number_of (take m (b ∷ bytes))) e ∙ ap (λ (m : ℕ). b + 256 * m) (number_split k n bytes (omega arith))
    ∙ ring b (number_of (take n (drop k bytes))) (2 ^ (8 * k)) (number_of (take k bytes))
    ∙ ap (λ (m : ℕ). number_of (take n (drop k bytes)) * m + (b + 256 * number_of (take k bytes))) (sym (next_power k))

pub number_bits : (k : ℕ) (bytes : List ℕ) → EachByte bytes → number_of (take k bytes) < 2 ^ (8 * k)
unfolding number_of
number_bits zero bytes h = lit< tt
number_bits (suc k) [] h = let p = next_power k in let ih = number_bits k [] tt in omega arith
number_bits (suc k) (b ∷ bytes) (a, h) = let p = next_power k in let ih = number_bits k bytes h in omega arith

pub bytes_dropped : (n : ℕ) (bytes : List ℕ) → EachByte bytes → EachByte (drop n bytes)
bytes_dropped zero bytes h = h
bytes_dropped (suc n) [] h = h
bytes_dropped (suc n) (byte ∷ bytes) (a, h) = bytes_dropped n bytes h

-- ---- what is written

-- one number more of some
pub more_written : (f : ℕ → ℕ) (out xs front : List ℕ) (at i x : ℕ) → i < length xs → at + i < length out → x ≡ get_or xs i 0
    → take (at + i) out ≡ front ++ map f (take i xs) → take (at + (i + 1)) (set out (at + i) (f x)) ≡ front ++ map f (take (i + 1) xs)
more_written f out xs front at i x h room e before =
    let next : at + (i + 1) ≡ (at + i) + 1 = omega arith in
    ap (λ (m : ℕ). take m (set out (at + i) (f x))) next ∙ take_more_set out (at + i) (f x) room ∙ ap (λ (l : List ℕ). l ++ f x ∷ []) before
    ∙ append_assoc front (map f (take i xs)) (f x ∷ []) ∙ ap (λ (y : ℕ). front ++ (map f (take i xs) ++ f y ∷ [])) e
    ∙ ap (λ (l : List ℕ). front ++ l) (sym (map-append f (take i xs) (get_or xs i 0 ∷ [])) ∙ ap (map f) (sym (take_more xs i 0 h)))

-- none yet
pub none_written : (f : ℕ → ℕ) (out xs : List ℕ) (at : ℕ) → take (at + 0) out ≡ take at out ++ map f (take 0 xs)
none_written f out xs at = let e : at + 0 ≡ at = omega arith in ap (λ (m : ℕ). take m out) e ∙ sym (append-nil (take at out))

-- all of them
pub all_written : (f : ℕ → ℕ) (out xs front : List ℕ) (at i n : ℕ) → length xs ≤ i → n ≡ at + i → take (at + i) out ≡ front ++ map f (take i xs) → take n out ≡ front ++ map f xs
all_written f out xs front at i n done e before =
    ap (λ (m : ℕ). take m out) e ∙ before ∙ ap (λ (l : List ℕ). front ++ map f l) (take_all i xs done)

pub range_at : (low n i : ℕ) → i < n → get_or (range_with_len low n) i 0 ≡ low + i
range_at low zero i h = absurd (omega arith)
range_at low (suc n) zero h = omega arith
range_at low (suc n) (suc i) h = let ih = range_at (low + 1) n i (omega arith) in omega arith

-- ---- slices end to end

pub get_take : (r i : ℕ) (xs : List ℕ) → i < length (take r xs) → get_or (take r xs) i 0 ≡ get_or xs i 0
get_take zero i xs h = absurd (omega arith)
get_take (suc r) i [] h = absurd (omega arith)
get_take (suc r) zero (x ∷ xs) h = refl
get_take (suc r) (suc i) (x ∷ xs) h = get_take r i xs (omega arith)

get_raised : (i : ℕ) (xs : List ℕ) → get_or (map (λ j. 0 + j) xs) i 0 ≡ get_or xs i 0
get_raised i [] = refl
get_raised zero (x ∷ xs) = omega arith
get_raised (suc i) (x ∷ xs) = get_raised i xs

-- the high bytes are written
pub first_at : (r i : ℕ) (out hs : List ℕ) → take r out ≡ map (λ j. 0 + j) hs → i < length hs → get_or out i 0 ≡ get_or hs i 0
first_at r i out hs e h =
    let size = ap length e ∙ length-map hs (λ j. 0 + j) in
    sym (get_take r i out (omega arith)) ∙ ap (λ (l : List ℕ). get_or l i 0) e ∙ get_raised i hs

pub rising_top : (low high i : ℕ) (xs : List ℕ) → IsRising low high xs → i < length xs → get_or xs i 0 < high
rising_top low high i [] r h = absurd (omega arith)
rising_top low high zero (x ∷ xs) (a, r) h = let room = rising_room (x + 1) high xs r in omega arith
rising_top low high (suc i) (x ∷ xs) (a, r) h = rising_top (x + 1) high i xs r (omega arith)

pub parts_step : (base i position : ℕ) (hs counts bytes : List ℕ) → i < length hs → i < length counts
    → map (λ j. base + j) (numbers_of (drop i hs) (drop i counts) (drop position bytes))
    ≡ map (λ j. base + 256 * get_or hs i 0 + j) (slice_numbers (get_or counts i 0 + 1) (take (slice_len (get_or counts i 0 + 1)) (drop position bytes)))
    ++ map (λ j. base + j) (numbers_of (drop (i + 1) hs) (drop (i + 1) counts) (drop (position + slice_len (get_or counts i 0 + 1)) bytes))
unfolding numbers_of
parts_step base i position hs counts bytes h k =
    let f : List ℕ → List ℕ = map (λ j. base + j) in
    let high : ℕ = get_or hs i 0 in
    let count : ℕ = get_or counts i 0 + 1 in
    let low : List ℕ = slice_numbers count (take (slice_len count) (drop position bytes)) in
    let rest : List ℕ = numbers_of (drop (i + 1) hs) (drop (i + 1) counts) (drop (slice_len count) (drop position bytes)) in
    let e : base + high * 256 ≡ base + 256 * high = omega arith in
    ap (λ (l : List ℕ). f (numbers_of l (drop i counts) (drop position bytes))) (drop_more hs i 0 h)
    ∙ ap (λ (l : List ℕ). f (numbers_of (high ∷ drop (i + 1) hs) l (drop position bytes))) (drop_more counts i 0 k)
    ∙ map-append (λ j. base + j) (map (λ j. high * 256 + j) low) rest
    ∙ ap (λ (l : List ℕ). l ++ f rest) (map_raised base (high * 256) low)
    ∙ ap (λ (m : ℕ). map (λ j. m + j) low ++ f rest) e
    ∙ ap (λ (l : List ℕ). map (λ j. base + 256 * high + j) low ++ f (numbers_of (drop (i + 1) hs) (drop (i + 1) counts) l)) (drop-drop (slice_len count) position bytes)

pub slices_step : (i position : ℕ) (counts bytes : List ℕ) → AreSlices (drop i counts) (drop position bytes) → i < length counts → position ≤ length bytes
    → (position + slice_len (get_or counts i 0 + 1) ≤ length bytes) × AreSlices (drop (i + 1) counts) (drop (position + slice_len (get_or counts i 0 + 1)) bytes)
slices_step i position counts bytes are h within =
    let count : ℕ = get_or counts i 0 + 1 in
    let (room, is, later) = subst (λ (l : List ℕ). AreSlices l (drop position bytes)) (drop_more counts i 0 h) are in
    (omega (arith, length-drop position bytes), subst (λ (l : List ℕ). AreSlices (drop (i + 1) counts) l) (drop-drop (slice_len count) position bytes) later)

pub slice_here : (i position : ℕ) (counts bytes : List ℕ) → AreSlices (drop i counts) (drop position bytes) → i < length counts
    → IsSlice (get_or counts i 0 + 1) (take (slice_len (get_or counts i 0 + 1)) (drop position bytes))
slice_here i position counts bytes are h =
    let (room, is, later) = subst (λ (l : List ℕ). AreSlices l (drop position bytes)) (drop_more counts i 0 h) are in
    is

pub parts_done : (base i n : ℕ) (hs counts bytes out : List ℕ) → length counts ≤ i → length hs ≤ i
    → take n out ++ map (λ j. base + j) (numbers_of (drop i hs) (drop i counts) bytes) ≡ take n out
unfolding numbers_of
parts_done base i n hs counts bytes out h k =
    ap (λ (l : List ℕ). take n out ++ map (λ j. base + j) (numbers_of l (drop i counts) bytes)) (drop_all i hs k) ∙ append-nil (take n out)
