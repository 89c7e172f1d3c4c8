-- A table of the positions of the bits of each byte, tested by computing.
use Rattle.std.proofs.Common.{◌≡◌, ℕ, zero, suc, ◌+◌, ◌*◌, ◌/◌, ◌%◌, ◌^◌, ◌<◌, ◌≤◌, ◌++◌, Bool, true, false, ◌&&◌, List, [], ◌∷◌, length, length-append, get_or, map, replicate, take, refl, sym, ◌∙◌, ap, arith, eqb, ltb, min, bit_and, subst, w8}
use Rattle.std.specs.Int.{bit_at}
use Rattle.std.specs.List.{filter, range_with_len}
use Rattle.std.specs.Simd.Lanes.{Each1, chunk, put_chunk, zip2}
use Rattle.std.proofs.Math.Seq.{take-append-add}
use Rattle.std.proofs.lemmas.Bool.{and_parts, eqb-true, ltb-true}
use Rattle.std.proofs.lemmas.List.{ext_get_or, get_or-map, get_or-take, length-map, length-take-le, map-append, take-append-le, take-take}
use Rattle.std.proofs.lemmas.Nat.Bits.{bit_at-lt, bit_at_and, bit_at_ones}
use Rattle.std.proofs.lemmas.Nat.{shr-shr}
use Rattle.std.proofs.lemmas.Simd.{Each1-from_get_or, Each1-get_or, SwzOk, SwzOk-from_below, get_or-chunk, get_or-swz_l_below, length-swz_l, map-map, swz_l, take_more_put_chunk, zip2_splat}
use Rattle.bitpack_slices.proofs.lemmas.bits.BitmapLaws.{those_raised, those_split}
use Rattle.bitpack_slices.proofs.lemmas.bytes.DecodeLaws.{rising_top}
use Rattle.bitpack_slices.proofs.lemmas.bodies.LoadLaws.{filtered_same}
use Rattle.bitpack_slices.proofs.lemmas.bits.OnesLaws.{ones_rise}
use Rattle.bitpack_slices.proofs.lemmas.bits.RaisedLaws.{map_raised}
use Rattle.bitpack_slices.specs.Bodies.{IsRising}
use Rattle.bitpack_slices.specs.Slices.{AreRows, ones_from}
use mir.Val.{Fits}
use borrow.Rule.Slice.PartMut.{post_of, put_mid}

-- a list begins with these numbers
abbrev pub begins : List ℕ → List ℕ → Bool
begins [] row = true
begins (x ∷ xs) [] = false
begins (x ∷ xs) (y ∷ row) = eqb y x && begins xs row

begins-take : (xs row : List ℕ) → begins xs row ≡ true → take (length xs) row ≡ xs
begins-take [] row tested = refl
begins-take (x ∷ xs) [] tested = absurd cc
begins-take (x ∷ xs) (y ∷ row) tested =
    ap (λ (z : ℕ). z ∷ take (length xs) row) (eqb-true y x (and_parts _ _ tested).0) ∙ ap (λ (l : List ℕ). x ∷ l) (begins-take xs row (and_parts _ _ tested).1)

-- it has a count of numbers that are below 8
abbrev pub below_eight : ℕ → List ℕ → Bool
below_eight zero row = true
below_eight (suc n) [] = false
below_eight (suc n) (y ∷ row) = ltb y 8 && below_eight n row

below_at : (n : ℕ) (row : List ℕ) → below_eight n row ≡ true → (k : ℕ) → k < n → get_or row k 0 < 8
below_at zero row tested k lt = absurd (omega arith)
below_at (suc n) [] tested k lt = absurd cc
below_at (suc n) (y ∷ row) tested zero lt = ltb-true y 8 (and_parts _ _ tested).0
below_at (suc n) (y ∷ row) tested (suc k) lt = below_at n row (and_parts _ _ tested).1 k (omega arith)

abbrev pub is_row : ℕ → List ℕ → Bool
is_row byte row = begins (ones_from byte 0 8) row && below_eight 8 row

-- each row passes the test of its byte
abbrev pub are_rows : (ℕ → List ℕ → Bool) → ℕ → List (List ℕ) → Bool
are_rows test byte [] = true
are_rows test byte (row ∷ rows) = test byte row && are_rows test (byte + 1) rows

row_at : (test : ℕ → List ℕ → Bool) (byte : ℕ) (rows : List (List ℕ)) (i : ℕ) (none : List ℕ) → i < length rows → are_rows test byte rows ≡ true
    → test (byte + i) (get_or rows i none) ≡ true
row_at test byte [] i none lt tested = absurd (omega arith)
row_at test byte (row ∷ rows) zero none lt tested =
    let e : byte + 0 ≡ byte = omega arith in
    rw e (and_parts (test byte row) (are_rows test (byte + 1) rows) tested).0
row_at test byte (row ∷ rows) (suc i) none lt tested =
    let e : byte + suc i ≡ byte + 1 + i = omega arith in
    rw e (row_at test (byte + 1) rows i none (omega arith) (and_parts (test byte row) (are_rows test (byte + 1) rows) tested).1)

pub first_row : (test : ℕ → List ℕ → Bool) (rows : List (List ℕ)) (byte : ℕ) (none : List ℕ) → length rows ≡ 256 → byte < 256 → are_rows test 0 rows ≡ true
    → test byte (get_or rows byte none) ≡ true
first_row test rows byte none count lt tested =
    let e : 0 + byte ≡ byte = omega arith in
    rw e at (row_at test 0 rows byte none (omega (arith, lt, count)) tested)

pub rows_right : (rows : List (List ℕ)) → length rows ≡ 256 → are_rows is_row 0 rows ≡ true → AreRows rows
rows_right rows count tested = record {
  count = count;
  small = λ byte k none lt within. below_at 8 (get_or rows byte none) (and_parts _ _ (first_row is_row rows byte none count lt tested)).1 k within;
  positions = λ byte none lt. begins-take (ones_from byte 0 8) (get_or rows byte none) (and_parts _ _ (first_row is_row rows byte none count lt tested)).0;
}

-- ---- some of what is written

pub chunk_taken : (xs ys : List ℕ) (at n : ℕ) → n ≤ length ys → at + length ys ≤ length xs → take (at + n) (put_chunk at xs ys) ≡ take at xs ++ take n ys
chunk_taken xs ys at n few room =
    let before : length (take at xs) ≡ at = length-take-le at xs (omega arith) in
    sym (take-take (at + n) (at + length ys) (put_chunk at xs ys) (omega arith))
    ∙ ap (take (at + n)) (take_more_put_chunk at xs ys (at + length ys) refl room)
    ∙ ap (λ i. take (i + n) (take at xs ++ ys)) (sym before)
    ∙ take-append-add (take at xs) ys n

-- ---- a row of eight, added to a number and written

module _ (values row lanes ones : List ℕ) (next base top : ℕ) (same : lanes ≡ replicate 8 base) (long : length row ≡ 8) (room : next + 8 ≤ length values) (fits : base + top ≤ 2 ^ 32)
    (few : length ones ≤ 8) (small : (k : ℕ) → k < 8 → get_or row k 0 < top) (positions : take (length ones) row ≡ ones) where
  abbrev pub sums : List ℕ
  sums = zip2 (λ a b. (a + b) % 2 ^ 32) (map (λ x. x) row) lanes

  abbrev f : ℕ → ℕ
  f x = (x + base) % 2 ^ 32

  sums_are : sums ≡ map f row
  sums_are = ap (zip2 (λ a b. (a + b) % 2 ^ 32) (map (λ x. x) row)) same ∙ zip2_splat (λ a b. (a + b) % 2 ^ 32) (map (λ x. x) row) 8 base (length-map row (λ x. x) ∙ long) ∙ map-map f (λ x. x) row

  eight : length sums ≡ 8
  eight = ap length sums_are ∙ length-map row f ∙ long

  front : take (length ones) sums ≡ map (λ i. base + i) ones
  front = ext_get_or 0 _ _ (count ∙ sym (length-map ones (λ i. base + i))) (λ k lt.
      let within : k < length ones = omega (arith, lt, count) in
      let one : get_or row k 0 ≡ get_or ones k 0 = sym (get_or-take (length ones) row k 0 within) ∙ ap (λ (l : List ℕ). get_or l k 0) positions in
      let less : get_or row k 0 < top = small k (omega (arith, within, few)) in
      let sum : (get_or row k 0 + base) % 2 ^ 32 ≡ base + get_or row k 0 = omega (arith, less, fits) in
      get_or-take (length ones) sums k 0 within ∙ ap (λ (l : List ℕ). get_or l k 0) sums_are
      ∙ get_or-map f row k 0 0 (omega (arith, within, few, long)) ∙ sum ∙ ap (λ (n : ℕ). base + n) one
      ∙ sym (get_or-map (λ i. base + i) ones k 0 0 within))
    where
      count : length (take (length ones) sums) ≡ length ones
      count = length-take-le (length ones) sums (omega (arith, few, eight))

  row_whole : take (next + length ones) (put_chunk next values sums) ≡ take next values ++ map (λ i. base + i) ones
  row_whole = chunk_taken values sums next (length ones) (omega (arith, few, eight)) (omega (arith, room, eight)) ∙ ap (λ xs. take next values ++ xs) front

  pub row_written : (n : ℕ) → length ones ≡ n → take (next + n) (put_chunk next values sums) ≡ take next values ++ map (λ i. base + i) ones
  row_written n count = ap (λ (k : ℕ). take (next + k) (put_chunk next values sums)) (sym count) ∙ row_whole

-- ---- the bits of a word, byte by byte

bit_retained : (b : ℕ) → b < 2 → min b 1 ≡ b
bit_retained zero h = refl
bit_retained (suc zero) h = refl
bit_retained (suc (suc b)) h = absurd (omega arith)

byte_bit : (word k i : ℕ) → i < 8 → bit_at word (k + i) ≡ bit_at (bit_and (word / 2 ^ k) 255) i
byte_bit word k i lt =
    ap (λ (n : ℕ). n % 2) (sym (shr-shr word k i)) ∙ sym (bit_retained (bit_at (word / 2 ^ k) i) (bit_at-lt (word / 2 ^ k) i))
    ∙ ap (min (bit_at (word / 2 ^ k) i)) (sym (bit_at_ones 8 i lt)) ∙ sym (bit_at_and (word / 2 ^ k) 255 i)

byte_more : (word k : ℕ) → ones_from word 0 (k + 8) ≡ ones_from word 0 k ++ map (λ j. k + j) (ones_from (bit_and (word / 2 ^ k) 255) 0 8)
unfolding ones_from
byte_more word k =
    let P : ℕ → Bool = λ i. eqb (bit_at word i) 1 in
    let Q : ℕ → Bool = λ i. eqb (bit_at (bit_and (word / 2 ^ k) 255) i) 1 in
    let position : 0 + k ≡ k + 0 = omega arith in
    those_split P 0 k 8
    ∙ ap (λ (l : List ℕ). filter P (range_with_len 0 k) ++ l)
    (ap (λ (a : ℕ). filter P (range_with_len a 8)) position ∙ those_raised P k 0 8
    ∙ ap (map (λ j. k + j)) (filtered_same (λ i. P (k + i)) Q 0 8 (λ i a b. ap (λ (n : ℕ). eqb n 1) (byte_bit word k i (omega arith)))))

pub bytes_more : (base i word : ℕ)
    → map (λ j. base + j) (ones_from word 0 (8 * (i + 1)))
    ≡ map (λ j. base + j) (ones_from word 0 (8 * i)) ++ map (λ j. base + 8 * i + j) (ones_from (bit_and (word / 2 ^ (8 * i)) 255) 0 8)
bytes_more base i word =
    let e : 8 * (i + 1) ≡ 8 * i + 8 = omega arith in
    let byte : List ℕ = ones_from (bit_and (word / 2 ^ (8 * i)) 255) 0 8 in
    ap (λ (n : ℕ). map (λ j. base + j) (ones_from word 0 n)) e ∙ ap (map (λ j. base + j)) (byte_more word (8 * i))
    ∙ map-append (λ j. base + j) (ones_from word 0 (8 * i)) (map (λ j. 8 * i + j) byte)
    ∙ ap (λ (l : List ℕ). map (λ j. base + j) (ones_from word 0 (8 * i)) ++ l) (map_raised base (8 * i) byte)

pub bytes_counted : (i word : ℕ)
    → length (ones_from word 0 (8 * (i + 1))) ≡ length (ones_from word 0 (8 * i)) + length (ones_from (bit_and (word / 2 ^ (8 * i)) 255) 0 8)
bytes_counted i word =
    let e : 8 * (i + 1) ≡ 8 * i + 8 = omega arith in
    let byte : List ℕ = ones_from (bit_and (word / 2 ^ (8 * i)) 255) 0 8 in
    ap (λ (n : ℕ). length (ones_from word 0 n)) e ∙ ap length (byte_more word (8 * i))
    ∙ length-append (ones_from word 0 (8 * i)) (map (λ j. 8 * i + j) byte) ∙ ap (λ (n : ℕ). length (ones_from word 0 (8 * i)) + n) (length-map byte (λ j. 8 * i + j))

-- ---- lanes that go on by 8

pub lanes_more : (base i : ℕ) (lanes : List ℕ) → lanes ≡ replicate 8 ((base + 8 * i) % 2 ^ 32)
    → zip2 (λ a b. (a + b) % 2 ^ 32) lanes (replicate 8 8) ≡ replicate 8 ((base + 8 * (i + 1)) % 2 ^ 32)
lanes_more base i lanes same =
    let e : ((base + 8 * i) % 2 ^ 32 + 8) % 2 ^ 32 ≡ (base + 8 * (i + 1)) % 2 ^ 32 = omega arith in
    ap (λ (l : List ℕ). zip2 (λ a b. (a + b) % 2 ^ 32) l (replicate 8 8)) same ∙ ap (replicate 8) e

pub lanes_first : (base i : ℕ) (lanes : List ℕ) → lanes ≡ replicate 8 ((base + 8 * i) % 2 ^ 32) → base + 64 ≤ 2 ^ 32 → i < 8 → get_or lanes 0 0 ≡ base + 8 * i
lanes_first base i lanes same fits lt = let e : (base + 8 * i) % 2 ^ 32 ≡ base + 8 * i = omega (arith, fits, lt) in ap (λ (l : List ℕ). get_or l 0 0) same ∙ e

-- ---- eight bytes at the numbers of a row

module _ (bytes row ones : List ℕ) (size : length bytes ≡ 8) (fit : Each1 (Fits w8) bytes) (long : length row ≡ 8) (few : length ones ≤ 8)
    (small : (k : ℕ) → k < 8 → get_or row k 0 < 8) (positions : take (length ones) row ≡ ones) where
  abbrev pub taken : List ℕ
  taken = swz_l w8 8 bytes 0 row

  pub taken_long : length taken ≡ 8
  taken_long = length-swz_l w8 8 bytes 0 row ∙ long

  pub within : SwzOk w8 8 8 0 row
  within = SwzOk-from_below w8 8 1 8 0 row refl (omega (arith, long)) (Each1-from_get_or (λ j. j < 8) row 0 (λ i lt. small i (omega (arith, lt, long))))

  taken_at : (k : ℕ) → k < 8 → get_or taken k 0 ≡ get_or bytes (get_or row k 0) 0
  taken_at k lt =
      let e : 8 * ((0 + k) / 8) + get_or row k 0 ≡ get_or row k 0 = omega (arith, lt) in
      get_or-swz_l_below w8 8 bytes 0 row k (omega (arith, lt, long)) (small k lt) ∙ ap (λ (j : ℕ). get_or bytes j 0) e

  pub taken_small : (k : ℕ) → k < 8 → get_or taken k 0 < 256
  taken_small k lt =
      let f : Fits w8 (get_or bytes (get_or row k 0) 0) = Each1-get_or (Fits w8) bytes (get_or row k 0) 0 (omega (arith, small k lt, size)) fit in
      subst (λ (n : ℕ). n < 256) (sym (taken_at k lt)) f.fits

  pub taken_few : length (map (λ i. get_or bytes i 0) ones) ≤ 8
  taken_few = omega (arith, few, length-map ones (λ i. get_or bytes i 0))

  pub taken_front : take (length (map (λ i. get_or bytes i 0) ones)) taken ≡ map (λ i. get_or bytes i 0) ones
  taken_front = ext_get_or 0 _ _ count (λ k lt.
      let less : k < length ones = omega (arith, lt, count, same) in
      let one : get_or row k 0 ≡ get_or ones k 0 = sym (get_or-take (length ones) row k 0 less) ∙ ap (λ (l : List ℕ). get_or l k 0) positions in
      get_or-take (length (map (λ i. get_or bytes i 0) ones)) taken k 0 (omega (arith, less, same)) ∙ taken_at k (omega (arith, less, few))
      ∙ ap (λ (j : ℕ). get_or bytes j 0) one ∙ sym (get_or-map (λ i. get_or bytes i 0) ones k 0 0 less))
    where
      same : length (map (λ i. get_or bytes i 0) ones) ≡ length ones
      same = length-map ones (λ i. get_or bytes i 0)

      count : length (take (length (map (λ i. get_or bytes i 0) ones)) taken) ≡ length (map (λ i. get_or bytes i 0) ones)
      count = length-take-le (length (map (λ i. get_or bytes i 0) ones)) taken (omega (arith, taken_few, taken_long))

-- ---- the bytes whose bit is 1, eight by eight

-- the elements at numbers that rise agree, if they do below the top
pub rising_agree : (top : ℕ) (xs : List ℕ) (f g : ℕ → ℕ) → IsRising 0 top xs → ((i : ℕ) → i < top → f i ≡ g i) → map f xs ≡ map g xs
rising_agree top xs f g rise same =
    ext_get_or 0 _ _ (length-map xs f ∙ sym (length-map xs g)) (λ k lt.
    let less : k < length xs = omega (arith, lt, length-map xs f) in
    get_or-map f xs k 0 0 less ∙ same (get_or xs k 0) (rising_top 0 top k xs rise less) ∙ sym (get_or-map g xs k 0 0 less))

pub chosen_next : (i matches : ℕ) (bytes : List ℕ)
    → map (λ j. get_or bytes j 0) (ones_from matches 0 (8 * (i + 1)))
    ≡ map (λ j. get_or bytes j 0) (ones_from matches 0 (8 * i)) ++ map (λ j. get_or (chunk (8 * i) 8 bytes) j 0) (ones_from (bit_and (matches / 2 ^ (8 * i)) 255) 0 8)
chosen_next i matches bytes =
    let e : 8 * (i + 1) ≡ 8 * i + 8 = omega arith in
    let g : ℕ → ℕ = λ j. get_or bytes j 0 in
    let byte : List ℕ = ones_from (bit_and (matches / 2 ^ (8 * i)) 255) 0 8 in
    let some : List ℕ = ones_from matches 0 (8 * i) in
    ap (λ (n : ℕ). map g (ones_from matches 0 n)) e ∙ ap (map g) (byte_more matches (8 * i))
    ∙ map-append g some (map (λ j. 8 * i + j) byte)
    ∙ ap (λ (l : List ℕ). map g some ++ l) (map-map g (λ j. 8 * i + j) byte
    ∙ rising_agree 8 byte (λ j. g (8 * i + j)) (λ j. get_or (chunk (8 * i) 8 bytes) j 0) (ones_rise (bit_and (matches / 2 ^ (8 * i)) 255) 0 8)
    (λ j lt. sym (get_or-chunk (8 * i) 8 bytes j 0 lt)))

pub chosen_more : (base i matches : ℕ) (bytes : List ℕ)
    → map (λ j. base + j) (map (λ j. get_or bytes j 0) (ones_from matches 0 (8 * (i + 1))))
    ≡ map (λ j. base + j) (map (λ j. get_or bytes j 0) (ones_from matches 0 (8 * i)))
    ++ map (λ j. base + j) (map (λ j. get_or (chunk (8 * i) 8 bytes) j 0) (ones_from (bit_and (matches / 2 ^ (8 * i)) 255) 0 8))
chosen_more base i matches bytes =
    ap (map (λ j. base + j)) (chosen_next i matches bytes)
    ∙ map-append (λ j. base + j) (map (λ j. get_or bytes j 0) (ones_from matches 0 (8 * i))) (map (λ j. get_or (chunk (8 * i) 8 bytes) j 0) (ones_from (bit_and (matches / 2 ^ (8 * i)) 255) 0 8))

-- ---- a window that is written

pub window_taken : (xs ys : List ℕ) (at k n : ℕ) → at ≤ length xs → n ≤ length ys → take (at + n) (put_mid at k xs ys) ≡ take at xs ++ take n ys
window_taken xs ys at k n le few =
    let size : length (take at xs) ≡ at = length-take-le at xs le in
    ap (λ (m : ℕ). take (m + n) (put_mid at k xs ys)) (sym size) ∙ take-append-add (take at xs) (ys ++ post_of at k xs) n
    ∙ ap (λ (l : List ℕ). take at xs ++ l) (take-append-le n ys (post_of at k xs) few)
