-- What the operations of a vector of n words do, for any n.
use Rattle.std.proofs.Common.{◌≡◌, ℕ, zero, suc, ◌+◌, ◌-◌, ◌*◌, ◌%◌, ◌^◌, ◌≤◌, List, [], ◌∷◌, ◌++◌, length, get_or, arith, Fits, w8, w32, take, bit_or, bit_and, map, sum, lit≤, refl, add-zero, replicate, sym, ap, ◌∙◌}
use Rattle.std.specs.List.{fold, range_with_len}
use Rattle.std.proofs.lemmas.Simd.{put_chunk_whole, Each1-from_get_or, length-zip2, get_or-zip2, zip2_splat}
use Rattle.std.proofs.lemmas.List.{get_or_append_left, get_or-append-add}
use Rattle.std.proofs.lemmas.List.FromFn.{length-map-range_with_len, get_or-map-range_with_len}
use Rattle.std.proofs.lemmas.Grind.{same_number_lists}
use lib.Lanes.{zip2, fold_l, put_chunk, chunk, pick_l, number_l, digits_l, Each1}
use Rattle.bitpacking_register.specs.Words.{first_words, words_of_bytes, bytes_of_words, wrapping_sum, wrapping_difference, shifted_left, shifted_right}
use Rattle.bitpacking_register.specs.Deltas.{differences, running_sums}
use Rattle.bitpacking_register.proofs.SumLemmas.{AreWords-differences, AreWords-running_sums, differences-next, running_sums-moved, running_sums-mod, running_sums-append, last-running_sums}
use Rattle.bitpacking_register.proofs.ByteLemmas.{length-bytes_of_words}
use Rattle.bitpacking_register.proofs.WordLemmas.{AreWords, AreWords-array, AreWords-loaded, take-whole, four_times, four_times-is, words-digits, bytes-digits, first_words-zip2, first_words-whole, first_words-map_splat, fold_l-fold, or-fits, and-fits, wrapping_sum-fits, wrapping_difference-fits, shifted_left-fits, shifted_right-fits}

pub first_words-or : (n : ℕ) (xs ys : List ℕ) → AreWords n xs → AreWords n ys
    → first_words n (zip2 bit_or xs ys) ≡ zip2 bit_or (first_words n xs) (first_words n ys)
first_words-or n = first_words-zip2 n bit_or or-fits

pub first_words-and : (n : ℕ) (xs ys : List ℕ) → AreWords n xs → AreWords n ys
    → first_words n (zip2 bit_and xs ys) ≡ zip2 bit_and (first_words n xs) (first_words n ys)
first_words-and n = first_words-zip2 n bit_and and-fits

pub first_words-add : (n : ℕ) (xs ys : List ℕ) → AreWords n xs → AreWords n ys
    → first_words n (zip2 wrapping_sum xs ys) ≡ zip2 wrapping_sum (first_words n xs) (first_words n ys)
first_words-add n = first_words-zip2 n wrapping_sum (λ x y _ _. wrapping_sum-fits x y)

pub first_words-sub : (n : ℕ) (xs ys : List ℕ) → AreWords n xs → AreWords n ys
    → first_words n (zip2 wrapping_difference xs ys) ≡ zip2 wrapping_difference (first_words n xs) (first_words n ys)
first_words-sub n = first_words-zip2 n wrapping_difference (λ x y _ _. wrapping_difference-fits x y)

pub first_words-shift_left : (n k : ℕ) (xs : List ℕ) → AreWords n xs
    → first_words n (zip2 (λ x y. shifted_left y x) xs (replicate n k)) ≡ map (shifted_left k) (first_words n xs)
first_words-shift_left n k = first_words-map_splat n (λ x y. shifted_left y x) k (λ x _. shifted_left-fits k x)

pub first_words-shift_right : (n k : ℕ) (xs : List ℕ) → AreWords n xs
    → first_words n (zip2 (λ x y. shifted_right y x) xs (replicate n k)) ≡ map (shifted_right k) (first_words n xs)
first_words-shift_right n k = first_words-map_splat n (λ x y. shifted_right y x) k (shifted_right-fits k)

pub fold_l-or : (n : ℕ) (xs : List ℕ) → AreWords n xs → fold_l bit_or 0 xs ≡ fold bit_or 0 (first_words n xs)
fold_l-or n xs h = fold_l-fold bit_or 0 xs ∙ sym (ap (fold bit_or 0) (first_words-whole n xs h))

-- a store of the whole slice
pub put_chunk-whole : (xs ys : List ℕ) → length xs ≡ length ys → Each1 (Fits w32) ys
    → put_chunk 0 xs ys ≡ first_words (length xs) ys
put_chunk-whole xs ys same fits =
    put_chunk_whole xs ys same ∙ sym (first_words-whole (length xs) ys (sym same, fits))

-- a load of the whole slice
pub first_words-chunk : (n : ℕ) (xs : List ℕ) → length xs ≡ n → ((k : ℕ) → Fits w32 (get_or xs k 0))
    → first_words n (chunk 0 n xs) ≡ xs
first_words-chunk n xs long fits =
    ap (first_words n) (take-whole n xs long) ∙ first_words-whole n xs (AreWords-array n xs long fits)

-- a load of the whole slice of bytes
pub first_words-loaded : (n : ℕ) (bytes : List ℕ) → length bytes ≡ 4 * n → ((k : ℕ) → Fits w8 (get_or bytes k 0))
    → first_words n (digits_l (2 ^ 32) n (number_l 256 (take (four_times n) bytes))) ≡ words_of_bytes bytes
first_words-loaded n bytes long fits =
    let four = long ∙ sym (four_times-is n) in
    ap (λ bs. first_words n (digits_l (2 ^ 32) n (number_l 256 bs))) (take-whole (four_times n) bytes four)
    ∙ ap (first_words n) (words-digits n bytes four (Each1-from_get_or (Fits w8) bytes 0 (λ k _. fits k)))
    ∙ first_words-whole n (words_of_bytes bytes) (AreWords-loaded n bytes long fits)

-- a store of the whole slice of bytes
pub put_chunk-bytes : (n : ℕ) (bytes xs : List ℕ) → length bytes ≡ 4 * n → AreWords n xs
    → put_chunk 0 bytes (digits_l 256 (four_times n) (number_l (2 ^ 32) xs)) ≡ bytes_of_words (first_words n xs)
put_chunk-bytes n bytes xs long h =
    let stored = bytes-digits n xs h in
    let same : length bytes ≡ length (bytes_of_words xs) = omega (arith, length-bytes_of_words xs, h.0) in
    ap (put_chunk 0 bytes) stored ∙ put_chunk_whole bytes (bytes_of_words xs) same
    ∙ sym (ap bytes_of_words (first_words-whole n xs h))

-- what is tried at each method
pub ruleset vector_steps = (first_words-or, first_words-and, fold_l-or, first_words-whole, put_chunk-whole)

-- ---- neighbours

-- the word before lane k, in two vectors one after the other
neighbour : (n k : ℕ) (previous current : List ℕ) → length previous ≡ n → 1 ≤ n
    → get_or (previous ++ current) (n - 1 + k) 0 ≡ get_or (get_or previous (n - 1) 0 ∷ current) k 0
neighbour n zero previous current long some =
    ap (λ i. get_or (previous ++ current) i 0) (add-zero (n - 1)) ∙ get_or_append_left previous current 0 (n - 1) (omega arith)
neighbour n (suc k) previous current long some =
    let index_is : n - 1 + suc k ≡ length previous + k = omega arith in
    ap (λ i. get_or (previous ++ current) i 0) index_is ∙ get_or-append-add previous current k 0

pub first_words-delta : (n : ℕ) (current previous : List ℕ) → 1 ≤ n → AreWords n current → AreWords n previous
    → first_words n (zip2 wrapping_difference current (pick_l 0 (previous ++ current) (range_with_len (n - 1) n)))
    ≡ differences (get_or (first_words n previous) (n - 1) 0) (first_words n current)
first_words-delta n current previous some g h =
    let before = get_or previous (n - 1) 0 in
    let at = λ (k : ℕ). get_or (previous ++ current) k 0 in
    let picked = pick_l 0 (previous ++ current) (range_with_len (n - 1) n) in
    let wanted = AreWords-differences n before current g.0 in
    let long = length-map-range_with_len at (n - 1) n in
    let long_zip2 = length-zip2 wrapping_difference current picked (g.0 ∙ sym long) in
    let same : zip2 wrapping_difference current picked ≡ differences before current =
    same_number_lists (zip2 wrapping_difference current picked) (differences before current) (long_zip2 ∙ g.0 ∙ sym wanted.0)
    (λ k lt. get_or-zip2 wrapping_difference current picked k 0 0 0 (omega arith) (omega arith)
    ∙ ap (wrapping_difference (get_or current k 0))
    (get_or-map-range_with_len at (n - 1) n k (n - 1 + k) 0 (omega (arith, g.0)) refl ∙ neighbour n k previous current h.0 some)
    ∙ sym (differences-next before current k (omega arith))) in
    rw (first_words-whole n previous h, first_words-whole n current g)
    (ap (first_words n) same ∙ first_words-whole n (differences before current) wanted)

-- sums from 0 on, to which the last lane of the register before is added
pub first_words-integral : (n : ℕ) (previous sums delta : List ℕ) → 1 ≤ n → sums ≡ running_sums 0 delta
    → AreWords n previous → AreWords n delta
    → first_words n (zip2 wrapping_sum sums (replicate n (get_or (previous ++ previous) (n - 1) 0)))
    ≡ running_sums (get_or (first_words n previous) (n - 1) 0) (first_words n delta)
first_words-integral n previous sums delta some is g h =
    let start = get_or previous (n - 1) 0 in
    let from_zero = AreWords-running_sums n 0 delta h.0 in
    let last = get_or_append_left previous previous 0 (n - 1) (omega (arith, g.0)) in
    let zero_more : start + 0 ≡ start = omega arith in
    rw (first_words-whole n previous g, first_words-whole n delta h, is, last)
    (ap (first_words n) (zip2_splat wrapping_sum (running_sums 0 delta) n start from_zero.0
    ∙ running_sums-moved start 0 delta ∙ ap (λ t. running_sums t delta) zero_more)
    ∙ first_words-whole n (running_sums start delta) (AreWords-running_sums n start delta h.0))

-- each lane and the one before it, and then with the two before those
abbrev sums_of_four : List ℕ → List ℕ
sums_of_four delta =
    let pairs = zip2 wrapping_sum delta (pick_l 0 (replicate 4 0 ++ delta) (0 ∷ 4 ∷ 5 ∷ 6 ∷ [])) in
    zip2 wrapping_sum pairs (pick_l 0 (replicate 4 0 ++ pairs) (0 ∷ 1 ∷ 4 ∷ 5 ∷ []))

four_lanes : (a b c d : ℕ) → sums_of_four (a ∷ b ∷ c ∷ d ∷ []) ≡ running_sums 0 (a ∷ b ∷ c ∷ d ∷ [])
four_lanes a b c d =
    let first : ((a + 0) % 2 ^ 32 + 0) % 2 ^ 32 ≡ (0 + a) % 2 ^ 32 = omega arith in
    let second : ((b + a) % 2 ^ 32 + 0) % 2 ^ 32 ≡ (0 + a + b) % 2 ^ 32 = omega arith in
    let third : ((c + b) % 2 ^ 32 + (a + 0) % 2 ^ 32) % 2 ^ 32 ≡ (0 + a + b + c) % 2 ^ 32 = omega arith in
    let fourth : ((d + c) % 2 ^ 32 + (b + a) % 2 ^ 32) % 2 ^ 32 ≡ (0 + a + b + c + d) % 2 ^ 32 = omega arith in
    cc

pub sums_of_four-is : (delta : List ℕ) → length delta ≡ 4 → sums_of_four delta ≡ running_sums 0 delta
sums_of_four-is (a ∷ b ∷ c ∷ d ∷ []) long = four_lanes a b c d
sums_of_four-is _ long = absurd (omega arith)

-- the last of the low half is added to each of the high half
abbrev carried : List ℕ → List ℕ
carried halves = zip2 wrapping_sum halves (pick_l 0 (replicate 8 0 ++ halves) (0 ∷ 1 ∷ 2 ∷ 3 ∷ 11 ∷ 11 ∷ 11 ∷ 11 ∷ []))

-- the sums of each half by itself, and then the carry
abbrev sums_of_eight : List ℕ → List ℕ
sums_of_eight delta =
    let pairs = zip2 wrapping_sum delta (pick_l 0 (replicate 8 0 ++ delta) (0 ∷ 8 ∷ 9 ∷ 10 ∷ 4 ∷ 12 ∷ 13 ∷ 14 ∷ [])) in
    carried (zip2 wrapping_sum pairs (pick_l 0 (replicate 8 0 ++ pairs) (0 ∷ 1 ∷ 8 ∷ 9 ∷ 4 ∷ 5 ∷ 12 ∷ 13 ∷ [])))

eight_lanes : (a b c d e f g h : ℕ)
    → sums_of_eight (a ∷ b ∷ c ∷ d ∷ e ∷ f ∷ g ∷ h ∷ []) ≡ running_sums 0 (a ∷ b ∷ c ∷ d ∷ e ∷ f ∷ g ∷ h ∷ [])
eight_lanes a b c d e f g h =
    let low = a ∷ b ∷ c ∷ d ∷ [] in
    let high = e ∷ f ∷ g ∷ h ∷ [] in
    let carry = get_or (running_sums 0 low) 3 0 in
    let by_itself : (carry + 0) % 2 ^ 32 ≡ (0 + sum low) % 2 ^ 32 = omega (arith, last-running_sums 0 low (lit≤ tt)) in
    ap (λ lanes. carried (lanes ++ sums_of_four high)) (four_lanes a b c d)
    ∙ ap (λ lanes. carried (running_sums 0 low ++ lanes)) (four_lanes e f g h)
    ∙ ap (λ lanes. lanes ++ map (λ s. wrapping_sum s carry) (running_sums 0 high)) (running_sums-moved 0 0 low)
    ∙ ap (λ lanes. running_sums 0 low ++ lanes)
    (running_sums-moved carry 0 high ∙ running_sums-mod (carry + 0) (0 + sum low) high by_itself)
    ∙ sym (running_sums-append 0 low high)

pub sums_of_eight-is : (delta : List ℕ) → length delta ≡ 8 → sums_of_eight delta ≡ running_sums 0 delta
sums_of_eight-is (a ∷ b ∷ c ∷ d ∷ e ∷ f ∷ g ∷ h ∷ []) long = eight_lanes a b c d e f g h
sums_of_eight-is _ long = absurd (omega arith)
