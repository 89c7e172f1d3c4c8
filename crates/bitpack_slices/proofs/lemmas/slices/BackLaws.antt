-- A slice and its count determine its numbers.
use Rattle.std.proofs.Common.{◌≡◌, ℕ, zero, suc, ◌+◌, ◌*◌, ◌/◌, ◌%◌, ◌^◌, ◌<◌, ◌≤◌, List, [], ◌∷◌, length, refl, sym, ap, ◌∙◌, arith, pow-suc, lit<, inl, inr, subst}
use Rattle.std.proofs.lemmas.Bool.{cases_lt, cond_above}
use Rattle.std.specs.List.{range_with_len}
use Rattle.std.proofs.lemmas.Nat.{div_below}
use Rattle.bitpack_slices.specs.Bodies.{IsRising, bits, le_bytes, slice}
use Rattle.bitpack_slices.proofs.lemmas.bits.CountLaws.{few_numbers, some_numbers}
use Rattle.bitpack_slices.proofs.lemmas.bits.OnesLaws.{ones_all, ones_rise}
use Rattle.bitpack_slices.proofs.lemmas.slices.SliceLaws.{bits_one, bits_room, rising_room, slice_few, slice_some}
use Rattle.bitpack_slices.specs.Slices.{number_of, ones_from, slice_numbers}

-- as many as there is room for are all numbers
pub rising_full : (low high : ℕ) (xs : List ℕ) → IsRising low high xs → low + length xs ≡ high → xs ≡ range_with_len low (length xs)
rising_full low high [] h e = refl
rising_full low high (x ∷ xs) (a, b) e =
    let r : (x + 1) + length xs ≤ high = rising_room (x + 1) high xs b in
    let same : x ≡ low = omega arith in
    let more : (x + 1) + length xs ≡ high = omega arith in
    let rest : xs ≡ range_with_len (x + 1) (length xs) = rising_full (x + 1) high xs b more in
    let moved : range_with_len (x + 1) (length xs) ≡ range_with_len (low + 1) (length xs) = ap (λ (n : ℕ). range_with_len (n + 1) (length xs)) same in
    cc

next_bytes : (x size : ℕ) → x < 256 ^ suc size → x < 256 ^ size * 256
next_bytes x size h = let e : 256 ^ suc size ≡ 256 ^ size * 256 = pow-suc 256 size in omega arith

-- numbers of so many bytes have one encoding
pub one_le_bytes : (size x y : ℕ) → x < 256 ^ size → y < 256 ^ size → le_bytes size x ≡ le_bytes size y → x ≡ y
unfolding le_bytes
one_le_bytes zero x y p q e = omega arith
one_le_bytes (suc size) x y p q e =
    let low : x % 256 ≡ y % 256 = cc in
    let rest : le_bytes size (x / 256) ≡ le_bytes size (y / 256) = cc in
    let high : x / 256 ≡ y / 256 = one_le_bytes size (x / 256) (y / 256) (div_below x 256 (256 ^ size) (lit< tt) (next_bytes x size p)) (div_below y 256 (256 ^ size) (lit< tt) (next_bytes y size q)) rest in
    omega arith

pub bits_below : (xs : List ℕ) → IsRising 0 256 xs → bits xs < 256 ^ 32
bits_below xs h = let r : bits xs + 2 ^ 0 ≤ 2 ^ 256 = bits_room 0 256 xs h in omega arith

middle : (xs ys : List ℕ) → IsRising 0 256 xs → IsRising 0 256 ys → le_bytes 32 (bits xs) ≡ le_bytes 32 (bits ys) → xs ≡ ys
middle xs ys h k e = bits_one 0 0 256 xs ys h k (one_le_bytes 32 (bits xs) (bits ys) (bits_below xs h) (bits_below ys k) e)

all_same : (xs ys : List ℕ) → IsRising 0 256 xs → IsRising 0 256 ys → length xs ≡ length ys → 256 ≤ length xs → xs ≡ ys
all_same xs ys h k e many =
    let r : 0 + length xs ≤ 256 = rising_room 0 256 xs h in
    let one : xs ≡ range_with_len 0 (length xs) = rising_full 0 256 xs h (omega arith) in
    let other : ys ≡ range_with_len 0 (length ys) = rising_full 0 256 ys k (omega arith) in
    cc

pub one_slice : (xs ys : List ℕ) → IsRising 0 256 xs → IsRising 0 256 ys → length xs ≡ length ys → slice xs ≡ slice ys → xs ≡ ys
one_slice xs ys h k e same =
    elim (cases_lt (length xs) 32) [
      | inl few ↦ sym (slice_few xs few) ∙ same ∙ slice_few ys (subst (λ (n : ℕ). n < 32) e few)
      | inr more ↦ elim (cases_lt (length xs) 256) [
        | inl some ↦ middle xs ys h k (sym (slice_some xs more some) ∙ same ∙ slice_some ys (subst (λ (n : ℕ). 32 ≤ n) e more) (subst (λ (n : ℕ). n < 256) e some))
        | inr many ↦ all_same xs ys h k e many
      ]
    ]

-- ---- the bits of a number that are 1, and the bytes of a number

pub slice_ones : (xs : List ℕ) → IsRising 0 256 xs → ones_from (bits xs) 0 256 ≡ xs
slice_ones xs h = bits_one 0 0 256 (ones_from (bits xs) 0 256) xs (ones_rise (bits xs) 0 256) h (ones_all (bits xs) 256 (bits_below xs h))

pub little_number : (size x : ℕ) → x < 256 ^ size → number_of (le_bytes size x) ≡ x
unfolding le_bytes number_of
little_number zero x h = omega arith
little_number (suc size) x h =
    let e : 256 ^ suc size ≡ 256 ^ size * 256 = pow-suc 256 size in
    let ih : number_of (le_bytes size (x / 256)) ≡ x / 256 = little_number size (x / 256) (div_below x 256 (256 ^ size) (lit< tt) (omega arith)) in
    omega arith

-- ---- how many bits are 1, and what tells a slice

all_numbers : (xs : List ℕ) → IsRising 0 256 xs → 256 ≤ length xs → xs ≡ range_with_len 0 256
all_numbers xs h many =
    let room : 0 + length xs ≤ 256 = rising_room 0 256 xs h in
    let size : length xs ≡ 256 = omega arith in
    rising_full 0 256 xs h (omega arith) ∙ ap (λ (n : ℕ). range_with_len 0 n) size

-- a slice is read as the numbers that it was written from
pub slice_back : (xs : List ℕ) → IsRising 0 256 xs → slice_numbers (length xs) (slice xs) ≡ xs
slice_back xs h =
    elim (cases_lt (length xs) 32) [
      | inl few ↦ few_numbers (length xs) (slice xs) few ∙ slice_few xs few
      | inr more ↦ elim (cases_lt (length xs) 256) [
        | inl some ↦ some_numbers (length xs) (slice xs) more some
            ∙ ap (λ (l : List ℕ). ones_from (number_of l) 0 256) (slice_some xs more some)
            ∙ ap (λ (n : ℕ). ones_from n 0 256) (little_number 32 (bits xs) (bits_below xs h)) ∙ slice_ones xs h
        | inr many ↦ sym (cond_above (length xs) 32 _ _ _ more (cond_above (length xs) 256 _ _ _ many refl)) ∙ sym (all_numbers xs h many)
      ]
    ]
